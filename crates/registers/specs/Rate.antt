-- The rate of a divisor, by the same formula: 16 × (prescaler + 1) × rate × divisor = frequency.
use Rattle.std.specs.Prelude.{◌≡◌, ℕ, ◌+◌, ◌*◌, ◌<◌, ◌≤◌, [], ◌∷◌, Option}
use Rattle.registers.specs.Divisor.{prescaled}
use Rattle.registers.specs.Refusal.{Refusal, refusal, amount, optional}

-- r is the rate of the divisor d at the frequency f with the prescaler p
abbrev pub RateOf : ℕ → ℕ → Option ℕ → ℕ → Type 0
RateOf f d p r = 16 * (prescaled p + 1) * r * d ≡ f

-- why there is no rate: the first question that is answered no
pub data NoRate (f d : ℕ) (p : Option ℕ) : Refusal → Type 0 where
  zero_frequency : f ≡ 0 → NoRate f d p (refusal 3 [])
  zero_divisor : 0 < f → d ≡ 0 → NoRate f d p (refusal 18 [])
  large_prescaler : 0 < f → 0 < d → 15 < prescaled p → NoRate f d p (refusal 5 [])
  no_integer : 0 < f → 0 < d → prescaled p ≤ 15 → ((r : ℕ) → RateOf f d p r → ⊥)
      → NoRate f d p (refusal 19 (amount f ∷ amount d ∷ optional p ∷ []))
