-- Attempts to send, one after the other.
use Rattle.std.proofs.Common.{◌≡◌, ℕ, zero, suc, ◌+◌, ◌<◌, ◌≤◌, cond, List, [], ◌∷◌, ◌++◌, length, take, drop, sym, refl, ap, ◌∙◌, subst, append_assoc, arith, length-append, length-drop}
use Rattle.std.proofs.lemmas.Grind.{flat_map-append}
use Rattle.std.proofs.lemmas.List.{drop-drop, map-append}
use Rattle.std.proofs.lemmas.List.Sums.{sum_by-append}
use Rattle.std.proofs.lemmas.Bool.{ne_eqb}
use Rattle.backends.specs.Device.{Device}
use Rattle.driver.specs.declared.uart.Uart16550.{Uart16550}
use Rattle.driver.specs.Kept.{Kept, kept}
use Rattle.driver.specs.Traces.{noting}
use Rattle.driver.specs.Sends.{Attempt, attempts, taken, line_statuses, modem_statuses, refusals, Attempted, wrote, refused, Attempts, Made, Sent}
use Rattle.driver.proofs.Runs.{runs_append}
use Rattle.driver.proofs.Tries.{noting_append}

-- how many took nothing, of attempts and then others
pub refusals_append : (xs ys : List Attempt) → refusals (xs ++ ys) ≡ refusals xs + refusals ys
refusals_append xs ys = sum_by-append _ xs ys

pub no_attempts : {S : Type 0} {d : Device S} {u : Uart16550 S} → Made d u u []
no_attempts = record { ran = refl; keeps = refl }

pub made_append : {S : Type 0} {d : Device S} {u v w : Uart16550 S} {xs ys : List Attempt} → Made d u v xs → Made d v w ys → Made d u w (xs ++ ys)
made_append {d = d} {u = u} {v = v} {w = w} {xs = xs} {ys = ys} p q = record {
  ran = rw (flat_map-append _ xs ys) (runs_append d (attempts xs) (attempts ys) u.backend v.backend w.backend p.ran q.ran);
  keeps = q.keeps ∙ ap (λ k. noting k (line_statuses ys) (modem_statuses ys)) p.keeps
      ∙ noting_append (kept u) (line_statuses xs) (modem_statuses xs) (line_statuses ys) (modem_statuses ys)
      ∙ ap (λ l. noting (kept u) l (modem_statuses xs ++ modem_statuses ys)) (sym (map-append _ xs ys))
      ∙ ap (λ l. noting (kept u) (line_statuses (xs ++ ys)) l) (sym (flat_map-append _ xs ys));
}

-- saved bits do not change what an attempt may do
one_noting : (k : Kept) (ls ms buffer : List ℕ) (a : Attempt) → Attempted (noting k ls ms) buffer a → Attempted k buffer a
one_noting k ls ms buffer a (wrote q h) = wrote q h
one_noting k ls ms buffer a (refused q x h) = refused q x h

attempts_noting : (k : Kept) (ls ms buffer : List ℕ) (xs : List Attempt) → Attempts (noting k ls ms) buffer xs → Attempts k buffer xs
attempts_noting k ls ms buffer [] h = tt
attempts_noting k ls ms buffer (a ∷ xs) h = (h.0, one_noting k ls ms buffer a h.1, attempts_noting k ls ms (drop (length a.bytes) buffer) xs h.2)

-- attempts on a buffer, and then others on what is left of it
pub attempts_more : (k l : Kept) (ls ms : List ℕ) (buffer : List ℕ) (xs ys : List Attempt) → l ≡ noting k ls ms → Attempts k buffer xs
    → Attempts l (drop (length (taken xs)) buffer) ys → Attempts k buffer (xs ++ ys)
attempts_more k l ls ms buffer [] ys e p q = attempts_noting k ls ms buffer ys (subst (λ n. Attempts n buffer ys) e q)
attempts_more k l ls ms buffer (a ∷ xs) ys e p q = (
  p.0,
  p.1,
  attempts_more k l ls ms (drop (length a.bytes) buffer) xs ys e p.2
      (subst (λ b. Attempts l b ys) (ap (λ n. drop n buffer) (length-append a.bytes (taken xs)) ∙ sym (drop-drop (length (taken xs)) (length a.bytes) buffer)) q),
)

front : (n : ℕ) (xs : List ℕ) → take n xs ++ drop (length (take n xs)) xs ≡ xs
front zero xs = refl
front (suc n) [] = refl
front (suc n) (x ∷ xs) = ap (λ l. x ∷ l) (front n xs)

one_front : (k : Kept) (buffer : List ℕ) (a : Attempt) → Attempted k buffer a → a.bytes ++ drop (length a.bytes) buffer ≡ buffer
one_front k buffer a (wrote q h) = front _ buffer
one_front k buffer a (refused q x h) = refl

-- the bytes taken are the first of the buffer
pub taken_front : (k : Kept) (buffer : List ℕ) (xs : List Attempt) → Attempts k buffer xs → taken xs ++ drop (length (taken xs)) buffer ≡ buffer
taken_front k buffer [] h = refl
taken_front k buffer (a ∷ xs) h =
    append_assoc a.bytes (taken xs) (drop (length (a.bytes ++ taken xs)) buffer)
    ∙ ap (λ l. a.bytes ++ (taken xs ++ l)) (ap (λ n. drop n buffer) (length-append a.bytes (taken xs)) ∙ sym (drop-drop (length (taken xs)) (length a.bytes) buffer))
    ∙ ap (λ l. a.bytes ++ l) (taken_front k (drop (length a.bytes) buffer) xs h.2)
    ∙ one_front k buffer a h.1

pub taken_within : (k : Kept) (buffer : List ℕ) (xs : List Attempt) → Attempts k buffer xs → length (taken xs) ≤ length buffer
taken_within k buffer xs h = omega (arith, ap length (taken_front k buffer xs h), length-append (taken xs) (drop (length (taken xs)) buffer))

-- One attempt, by whether it took something

nothing : (bs : List ℕ) → length (bs ++ []) ≡ 0 → bs ≡ []
nothing [] e = refl
nothing (b ∷ bs) e = absurd (omega arith)

pub one_refused : (xs : List Attempt) → length xs ≡ 1 → length (taken xs) ≡ 0
    → (a : Attempt) × (a.bytes ≡ []) × (xs ≡ record { question = a.question; bytes = [] } ∷ [])
one_refused [] e z = absurd (omega arith)
one_refused (a ∷ []) e z = (a, nothing a.bytes z, ap (λ b. record { question = a.question; bytes = b } ∷ []) (nothing a.bytes z))
one_refused (a ∷ (b ∷ xs)) e z = absurd (omega arith)

pub one_refusal : (xs : List Attempt) → length xs ≡ 1 → length (taken xs) ≡ 0 → refusals xs ≡ 1
one_refusal xs e z = let r = one_refused xs e z in ap refusals r.2

pub no_refusal : (xs : List Attempt) → length xs ≡ 1 → 0 < length (taken xs) → refusals xs ≡ 0
no_refusal [] e h = absurd (omega arith)
no_refusal (a ∷ []) e h = let f = length-append a.bytes [] in ap (λ b. 0 + cond b 1 0) (ne_eqb (length a.bytes) 0 (λ z. omega arith))
no_refusal (a ∷ (b ∷ xs)) e h = absurd (omega arith)

-- one attempt more on what is left of the buffer
module _ {S : Type 0} {d : Device S} {u v w : Uart16550 S} (buffer : List ℕ) {xs : List Attempt} (moved count : ℕ)
    (p : Made d u v xs) (a : Attempts (kept u) buffer xs) (m : moved ≡ length (taken xs)) (h : moved < length buffer)
    (q : Sent d v w (drop moved buffer) count) where
  -- with it the attempts so far go on, and it was fruitless exactly where it took nothing
  pub record OneMore : Type 0 where
    pub made : Made d u w (xs ++ q.tried)
    pub sound : Attempts (kept u) buffer (xs ++ q.tried)
    pub moves : moved + count ≡ length (taken (xs ++ q.tried))
    pub within : moved + count ≤ length buffer
    pub one : length q.tried ≡ 1
    pub fruitless : count ≡ 0 → refusals (xs ++ q.tried) ≡ refusals xs + 1
    pub fruitful : (count ≡ 0 → ⊥) → refusals (xs ++ q.tried) ≡ refusals xs

  pub one_more : OneMore
  one_more =
      let sound = attempts_more (kept u) (kept v) (line_statuses xs) (modem_statuses xs) buffer xs q.tried p.keeps a (subst (λ i. Attempts (kept v) (drop i buffer) q.tried) m q.sound) in
      let t : moved + count ≡ length (taken (xs ++ q.tried)) =
      let e = ap length (flat_map-append (λ x. x.bytes) xs q.tried) in let f = length-append (taken xs) (taken q.tried) in omega (arith, q.answer) in
      let one : length q.tried ≡ 1 = let e = length-drop moved buffer in omega (arith, q.one) in
      record {
        made = made_append p q.made;
        sound = sound;
        moves = t;
        within = omega (arith, taken_within (kept u) buffer (xs ++ q.tried) sound);
        one = one;
        fruitless = λ z. let e : length (taken q.tried) ≡ 0 = omega (arith, q.answer) in omega (arith, refusals_append xs q.tried, one_refusal q.tried one e);
        fruitful = λ z. let e : 0 < length (taken q.tried) = omega (arith, q.answer) in omega (arith, refusals_append xs q.tried, no_refusal q.tried one e);
      }
