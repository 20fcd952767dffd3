-- Errors that are shown, by the bits of saved and read bytes.
use Rattle.std.proofs.Common.{◌≡◌, ℕ, ◌+◌, ◌-◌, ◌*◌, ◌^◌, ◌<◌, ◌≤◌, min, max, Bool, true, false, ◌||◌, eqb, ltb, sym, refl, ap, ◌∙◌, ⊎_elim, arith}
use lib.Bits.{bit_and, bit_or, and_high}
use Rattle.std.proofs.lemmas.Nat.{pow-add, pow_pos}
use Rattle.std.proofs.lemmas.Bool.{cases_lt, cases_eq, lt-ltb, le-ltb, eq-eqb, ne_eqb}
use Rattle.registers.specs.Fields.{bit}
use Rattle.registers.specs.Flags.{contains, line_errors}
use Rattle.registers.proofs.Bits.{bit_of_or, bit_of_and, bit_le}
use Rattle.backends.specs.declared.character.Counts.{Counts}
use Rattle.ledger.specs.Law.{ShowsErrors}

one_bit : (n w : ℕ) → n ≤ 1 → 0 < w → eqb (n * w) w ≡ eqb n 1
one_bit n w h p = ⊎_elim
    (λ e. let f : n * w ≡ w = rw e (omega arith) in eq-eqb (n * w) w f ∙ sym (eq-eqb n 1 e))
    (λ e. let z : n ≡ 0 = omega arith in let f : n * w ≡ 0 = rw z (omega arith) in ne_eqb (n * w) w (λ g. omega arith) ∙ sym (ne_eqb n 1 e))
    (cases_eq n 1)

-- a mask of one bit, as that bit
pub contains_bit : (k v : ℕ) → contains v (2 ^ k) ≡ eqb (bit k v) 1
unfolding contains
contains_bit k v =
    let m : 2 ^ k ≡ 2 ^ (1 + k) - 2 ^ k = omega (arith, pow-add 2 1 k) in
    let e : bit_and v (2 ^ k) ≡ bit k v * 2 ^ k = ap (λ n. bit_and v n) m ∙ and_high v 1 k in
    ap (λ x. eqb x (2 ^ k)) e ∙ one_bit (bit k v) (2 ^ k) (bit_le k v) (pow_pos k)

either : (a b : ℕ) → a ≤ 1 → b ≤ 1 → eqb (max a b) 1 ≡ (eqb a 1 || eqb b 1)
either a b h j = ⊎_elim
    (λ e. let f : max a b ≡ 1 = omega arith in eq-eqb (max a b) 1 f ∙ sym (ap (λ x. x || eqb b 1) (eq-eqb a 1 e)))
    (λ e. let f : max a b ≡ b = omega arith in ap (λ n. eqb n 1) f ∙ sym (ap (λ x. x || eqb b 1) (ne_eqb a 1 e)))
    (cases_eq a 1)

-- a bit of two bytes joined
pub contains_or : (k a b : ℕ) → contains (bit_or a b) (2 ^ k) ≡ (contains a (2 ^ k) || contains b (2 ^ k))
contains_or k a b =
    contains_bit k (bit_or a b) ∙ ap (λ n. eqb n 1) (bit_of_or k a b) ∙ either (bit k a) (bit k b) (bit_le k a) (bit_le k b)
    ∙ sym (ap (λ x. x || contains b (2 ^ k)) (contains_bit k a) ∙ ap (λ x. eqb (bit k a) 1 || x) (contains_bit k b))

-- a bit that a mask keeps
pub contains_under : (k v m : ℕ) → bit k m ≡ 1 → contains (bit_and v m) (2 ^ k) ≡ contains v (2 ^ k)
contains_under k v m e =
    contains_bit k (bit_and v m) ∙ ap (λ n. eqb n 1) (bit_of_and k v m ∙ (let h = bit_le k v in let f : min (bit k v) (bit k m) ≡ bit k v = omega arith in f)) ∙ sym (contains_bit k v)

-- growth in two steps
grew : (a b c : ℕ) → a ≤ b → b ≤ c → (ltb a b || ltb b c) ≡ ltb a c
grew a b c h j = ⊎_elim
    (λ l. ap (λ x. x || ltb b c) (lt-ltb a b l) ∙ sym (lt-ltb a c (omega arith)))
    (λ l. ap (λ x. x || ltb b c) (le-ltb a b l) ∙ (let e : a ≡ b = omega arith in ap (λ n. ltb n c) (sym e)))
    (cases_lt a b)

-- each count is at least what it was
pub record Grown (a b : Counts) : Type 0 where
  pub lost : a.lost ≤ b.lost
  pub parity : a.parity ≤ b.parity
  pub framing : a.framing ≤ b.framing
  pub broken : a.broken ≤ b.broken

pub grown_same : (a : Counts) → Grown a a
grown_same a = record { lost = omega arith; parity = omega arith; framing = omega arith; broken = omega arith }

pub grown_more : (a b c : Counts) → Grown a b → Grown b c → Grown a c
grown_more a b c p q = record {
  lost = omega (arith, p.lost, q.lost);
  parity = omega (arith, p.parity, q.parity);
  framing = omega (arith, p.framing, q.framing);
  broken = omega (arith, p.broken, q.broken);
}

-- one error in a saved byte joined with one that was read
one_joined : (k s v a b c : ℕ) → bit k line_errors ≡ 1 → contains s (2 ^ k) ≡ ltb a b → contains v (2 ^ k) ≡ ltb b c → a ≤ b → b ≤ c
    → contains (bit_or s (bit_and v line_errors)) (2 ^ k) ≡ ltb a c
one_joined k s v a b c m p q h j =
    contains_or k s (bit_and v line_errors) ∙ ap (λ x. contains s (2 ^ k) || x) (contains_under k v line_errors m ∙ q) ∙ ap (λ x. x || ltb b c) p ∙ grew a b c h j

-- all four
pub shows_joined : (s v : ℕ) (a b c : Counts) → ShowsErrors s a b → ShowsErrors v b c → Grown a b → Grown b c → ShowsErrors (bit_or s (bit_and v line_errors)) a c
shows_joined s v a b c p q g h = record {
  overrun = one_joined 1 s v a.lost b.lost c.lost refl p.overrun q.overrun g.lost h.lost;
  parity = one_joined 2 s v a.parity b.parity c.parity refl p.parity q.parity g.parity h.parity;
  framing = one_joined 3 s v a.framing b.framing c.framing refl p.framing q.framing g.framing h.framing;
  broken = one_joined 4 s v a.broken b.broken c.broken refl p.broken q.broken g.broken h.broken;
}

again : (x y : Bool) → (x || (y || x)) ≡ (y || x)
again true true = refl
again true false = refl
again false true = refl
again false false = refl

one_answered : (k s v : ℕ) → bit k line_errors ≡ 1 → contains (bit_or v (bit_or s (bit_and v line_errors))) (2 ^ k) ≡ contains (bit_or s (bit_and v line_errors)) (2 ^ k)
one_answered k s v m =
    let u = contains_under k v line_errors m in
    contains_or k v (bit_or s (bit_and v line_errors))
    ∙ ap (λ x. contains v (2 ^ k) || x) (contains_or k s (bit_and v line_errors) ∙ ap (λ x. contains s (2 ^ k) || x) u)
    ∙ again (contains v (2 ^ k)) (contains s (2 ^ k))
    ∙ sym (contains_or k s (bit_and v line_errors) ∙ ap (λ x. contains s (2 ^ k) || x) u)

-- a byte that was read, joined with what it was saved to, shows no more errors than the saved byte
pub shows_answered : (s v : ℕ) (a c : Counts) → ShowsErrors (bit_or s (bit_and v line_errors)) a c → ShowsErrors (bit_or v (bit_or s (bit_and v line_errors))) a c
shows_answered s v a c p = record {
  overrun = one_answered 1 s v refl ∙ p.overrun;
  parity = one_answered 2 s v refl ∙ p.parity;
  framing = one_answered 3 s v refl ∙ p.framing;
  broken = one_answered 4 s v refl ∙ p.broken;
}

none_grown : (n : ℕ) → false ≡ ltb n n
none_grown n = sym (le-ltb n n (omega arith))

-- an empty byte shows none
pub shows_none : (a : Counts) → ShowsErrors 0 a a
unfolding contains
shows_none a = record { overrun = none_grown a.lost; parity = none_grown a.parity; framing = none_grown a.framing; broken = none_grown a.broken }
