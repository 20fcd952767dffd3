-- Arrivals keep the account of the characters.
use Rattle.std.proofs.Common.{◌≡◌, ℕ, ◌+◌, ◌≤◌, Bool, true, false, ltb, List, [], ◌∷◌, ◌++◌, length, sym, refl, ap, ◌∙◌, subst, append_assoc, arith, length-append}
use Rattle.std.proofs.lemmas.Bool.{cond_both, ltb-true, ltb-false}
use Rattle.std.proofs.lemmas.List.{map-append}
use Rattle.backends.specs.declared.character.Character.{Character}
use Rattle.backends.specs.declared.character.Counts.{Counts}
use Rattle.backends.specs.Chip.{Receiver, Fifos, absent, off, on, is_on, capacity}
use Rattle.backends.specs.Rules.{reach, arrive, joining, first, overrun, one_more, some_wait, next_first}
use Rattle.ledger.specs.Law.{Within, Accounted, bytes}
use Rattle.ledger.proofs.Order.{end_kept, end_left, front_within}
use Rattle.ledger.proofs.Shown.{Grown, grown_same, grown_more}

cap_one : (f : Fifos) → is_on f ≡ false → capacity f ≡ 1
cap_one absent e = refl
cap_one off e = refl
cap_one on e = let z : ◌≡◌ {A = ℕ} 0 1 = cc in absurd (omega arith)

more_le : (b : Bool) (n : ℕ) → n ≤ one_more b n
more_le true n = omega arith
more_le false n = omega arith

pub first_grown : (c : Character) (n : Counts) → Grown n (first c n)
first_grown c n = record { lost = omega arith; parity = more_le c.parity n.parity; framing = more_le c.framing n.framing; broken = more_le c.broken n.broken }

joining_grown : (ws : List Character) (c : Character) (n : Counts) → Grown n (joining ws c n)
joining_grown [] c n = first_grown c n
joining_grown (w ∷ ws) c n = grown_same n

joining_lost : (ws : List Character) (c : Character) (n : Counts) → (joining ws c n).lost ≡ n.lost
joining_lost [] c n = refl
joining_lost (w ∷ ws) c n = refl

pub next_grown : (cs : List Character) (n : Counts) → Grown n (next_first cs n)
next_grown [] n = grown_same n
next_grown (c ∷ cs) n = first_grown c n

pub next_lost : (cs : List Character) (n : Counts) → (next_first cs n).lost ≡ n.lost
next_lost [] n = refl
next_lost (c ∷ cs) n = refl

overrun_grown : (n : Counts) → Grown n (overrun n)
overrun_grown n = record { lost = omega arith; parity = omega arith; framing = omega arith; broken = omega arith }

some_end : (ws : List Character) (c : Character) → some_wait (ws ++ (c ∷ [])) ≡ true
some_end [] c = refl
some_end (w ∷ ws) c = refl

-- what an arrival leaves of a receiver: the account, counts that grew, what was seen, one character at most without FIFOs, and none that vanished
pub record After (start r : Receiver) (f : Fifos) (out : List ℕ) (n : Receiver) : Type 0 where
  pub account : Accounted start n out
  pub grown : Grown r.counts n.counts
  pub seen : n.seen ≡ r.seen
  pub single : is_on f ≡ false → length n.waiting ≤ 1
  pub still : some_wait r.waiting ≡ true → some_wait n.waiting ≡ true

module _ (start r : Receiver) (f : Fifos) (out : List ℕ) (a : Accounted start r out) (one : is_on f ≡ false → length r.waiting ≤ 1) (c : Character) where
  came_more : r.arrived ++ (c ∷ []) ≡ start.arrived ++ (a.since ++ (c ∷ []))
  came_more = ap (λ l. l ++ (c ∷ [])) a.came ∙ append_assoc start.arrived a.since (c ∷ [])

  since_more : bytes start.waiting ++ bytes (a.since ++ (c ∷ [])) ≡ (bytes start.waiting ++ bytes a.since) ++ (c.byte ∷ [])
  since_more = ap (λ l. bytes start.waiting ++ l) (map-append (λ x. x.byte) a.since (c ∷ [])) ∙ sym (append_assoc (bytes start.waiting) (bytes a.since) (c.byte ∷ []))

  joins : ltb (length r.waiting) (capacity f) ≡ true
      → After start r f out (record { waiting = r.waiting ++ (c ∷ []); arrived = r.arrived ++ (c ∷ []); counts = joining r.waiting c r.counts; seen = r.seen })
  joins l =
      let w = length-append r.waiting (c ∷ []) in
      let s = length-append a.since (c ∷ []) in
      record {
        account = record {
          since = a.since ++ (c ∷ []);
          came = came_more;
          lost = a.lost;
          newly = joining_lost r.waiting c r.counts ∙ a.newly;
          sum = omega (arith, a.sum);
          order = rw since_more (subst (λ xs. Within xs ((bytes start.waiting ++ bytes a.since) ++ (c.byte ∷ [])))
              (append_assoc out (bytes r.waiting) (c.byte ∷ []) ∙ ap (λ l. out ++ l) (sym (map-append (λ x. x.byte) r.waiting (c ∷ []))))
              (end_kept _ _ c.byte a.order));
        };
        grown = joining_grown r.waiting c r.counts;
        seen = refl;
        single = λ e. let h = cap_one f e in let j = ltb-true (length r.waiting) (capacity f) l in omega arith;
        still = λ e. some_end r.waiting c;
      }

  drops : After start r f out (record { waiting = r.waiting; arrived = r.arrived ++ (c ∷ []); counts = overrun r.counts; seen = r.seen })
  drops =
      let s = length-append a.since (c ∷ []) in
      record {
        account = record {
          since = a.since ++ (c ∷ []);
          came = came_more;
          lost = a.lost + 1;
          newly = omega (arith, a.newly);
          sum = omega (arith, a.sum);
          order = rw since_more (end_left _ _ c.byte a.order);
        };
        grown = overrun_grown r.counts;
        seen = refl;
        single = one;
        still = λ e. e;
      }

  replaces : ltb (length r.waiting) (capacity f) ≡ false → is_on f ≡ false
      → After start r f out (record { waiting = c ∷ []; arrived = r.arrived ++ (c ∷ []); counts = first c (overrun r.counts); seen = r.seen })
  replaces l e =
      let s = length-append a.since (c ∷ []) in
      let h = cap_one f e in
      let j = ltb-false (length r.waiting) (capacity f) l in
      let w : length r.waiting ≡ 1 = omega (arith, one e) in
      record {
        account = record {
          since = a.since ++ (c ∷ []);
          came = came_more;
          lost = a.lost + 1;
          newly = omega (arith, a.newly);
          sum = omega (arith, a.sum);
          order = rw since_more (end_kept _ _ c.byte (front_within out (bytes r.waiting) refl a.order));
        };
        grown = grown_more _ _ _ (overrun_grown r.counts) (first_grown c (overrun r.counts));
        seen = refl;
        single = λ _. omega arith;
        still = λ _. refl;
      }

  pub reached : After start r f out (reach f (c ∷ []) c r)
  reached = cond_both _ _ _ (After start r f out) joins (λ l. cond_both (is_on f) _ _ (After start r f out) (λ _. drops) (replaces l))

-- characters arrive
pub arrived : (start r : Receiver) (f : Fifos) (out : List ℕ) → Accounted start r out → (is_on f ≡ false → length r.waiting ≤ 1) → (cs : List Character)
    → After start r f out (arrive f cs r)
arrived start r f out a one [] = record { account = a; grown = grown_same r.counts; seen = refl; single = one; still = λ e. e }
arrived start r f out a one (c ∷ cs) =
    let p = reached start r f out a one c in
    let q = arrived start (reach f (c ∷ []) c r) f out p.account p.single cs in
    record {
      account = q.account;
      grown = grown_more _ _ _ p.grown q.grown;
      seen = q.seen ∙ p.seen;
      single = q.single;
      still = λ e. q.still (p.still e);
    }
