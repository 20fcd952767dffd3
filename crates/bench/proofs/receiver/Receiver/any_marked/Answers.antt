use Rattle.std.proofs.Common.{◌≡◌, ℕ, suc, ◌+◌, Bool, false, ◌||◌, List, [], ◌∷◌, length, slice_get, Option, None, Some, refl, ap, ap₂, ◌∙◌, arith, rules}
use Rattle.std.specs.List.{list_any, range_with_len}
use Rattle.std.proofs.lemmas.Iterator.{YieldsList-from_range}
use Rattle.std.proofs.lemmas.Iterator.Search.{any_from_yields_List}
use Rattle.backends.specs.declared.character.Character.{Character}
use Rattle.bench.specs.Receiver.{bears_mark}
use Rattle.bench.proofs.receiver.Receiver.any_marked.Goals as goal

-- what stands at a place bears a mark
abbrev is_marked : Option Character → Bool
is_marked None = false
is_marked (Some c) = bears_mark c

-- one of the places has a marked character, if one of the characters is marked
any-places : (f : ℕ → Bool) (a : ℕ) (cs : List Character) → ((k : ℕ) → f (a + k) ≡ is_marked (slice_get cs k))
    → list_any f (range_with_len a (length cs)) ≡ list_any bears_mark cs
any-places f a [] h = refl
any-places f a (c ∷ cs) h =
    ap₂ ◌||◌ (ap f (omega arith) ∙ h 0)
    (any-places f (a + 1) cs (λ k. let e : a + 1 + k ≡ a + suc k = omega arith in ap f e ∙ h (suc k)))

pub returns : goal.returns
returns c =
    let q = c.args.self.now.queue in
    any_from_yields_List (λ k. is_marked (slice_get q k)) _ _ _ c.any.ensures.ran
    (YieldsList-from_range 0 c.len.result (length q) refl (omega arith)) (λ x b q k. search rules)
    ∙ any-places (λ k. is_marked (slice_get q k)) 0 q (λ k. ap (λ j. is_marked (slice_get q j)) (omega arith))
