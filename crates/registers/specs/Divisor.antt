-- The divisor formula of the datasheet: 16 × (prescaler + 1) × rate × divisor = frequency.
use Rattle.std.specs.Prelude.{◌≡◌, ℕ, ◌+◌, ◌*◌, ◌<◌, ◌≤◌, [], ◌∷◌, Option, ◌≢◌}
use Rattle.std.specs.Option.{unwrap_or}
use Rattle.registers.specs.Refusal.{Refusal, refusal, amount, optional}

-- the prescaler in the formula: 0 where there is none
abbrev pub prescaled : Option ℕ → ℕ
prescaled p = unwrap_or p 0

-- d is the divisor of the rate r at the frequency f with the prescaler p
pub record DivisorOf (f r : ℕ) (p : Option ℕ) (d : ℕ) : Type 0 where
  pub equation : 16 * (prescaled p + 1) * r * d ≡ f
  pub least : 1 ≤ d
  pub most : d ≤ 65535

-- no integer solves the formula
abbrev pub NoQuotient : ℕ → ℕ → ℕ → Type 0
NoQuotient f r p = (q : ℕ) → 16 * (p + 1) * r * q ≢ f

-- why there is no divisor: the first question that is answered no
pub data NoDivisor (f r : ℕ) (p : Option ℕ) : Refusal → Type 0 where
  zero_frequency : f ≡ 0 → NoDivisor f r p (refusal 3 [])
  zero_rate : 0 < f → r ≡ 0 → NoDivisor f r p (refusal 4 [])
  large_prescaler : 0 < f → 0 < r → 15 < prescaled p → NoDivisor f r p (refusal 5 [])
  no_integer : 0 < f → 0 < r → prescaled p ≤ 15 → NoQuotient f r (prescaled p)
      → NoDivisor f r p (refusal 6 (amount f ∷ amount r ∷ optional p ∷ []))
  too_large : 0 < f → 0 < r → prescaled p ≤ 15 → (q : ℕ) → 16 * (prescaled p + 1) * r * q ≡ f → 65535 < q
      → NoDivisor f r p (refusal 7 (amount q ∷ []))
