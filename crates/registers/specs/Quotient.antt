-- The questions that the divisor and the rate have in common.
use Rattle.std.specs.Prelude.{◌≡◌, ℕ, ◌+◌, ◌*◌, ◌<◌, ◌≤◌, [], ◌∷◌}
use Rattle.registers.specs.Divisor.{prescaled, NoDivisor}
use Rattle.registers.specs.Rate.{NoRate}
use Rattle.registers.specs.Refusal.{Refusal, refusal, amount, optional}
use Rattle.registers.specs.declared.divisor.Formula.{Formula}
use Rattle.registers.specs.declared.divisor.QuotientError.{QuotientError}
use Rattle.registers.specs.declared.divisor.QuotientError.TheVariants.{ZeroFrequency, ZeroFactor, InvalidPrescaler, NonInteger}

-- q solves the formula
pub record IsQuotient (f : Formula) (q : ℕ) : Type 0 where
  pub frequency : 0 < f.frequency
  pub factor : 0 < f.factor
  pub prescaler : prescaled f.prescaler_division_factor ≤ 15
  pub equation : 16 * (prescaled f.prescaler_division_factor + 1) * f.factor * q ≡ f.frequency

-- the refusal, where z is the number of the question whether the factor is 0, and n of that for an integer
abbrev pub quotient_refusal : ℕ → ℕ → QuotientError → Refusal
quotient_refusal z n ZeroFrequency = refusal 3 []
quotient_refusal z n ZeroFactor = refusal z []
quotient_refusal z n InvalidPrescaler = refusal 5 []
quotient_refusal z n (NonInteger f) = refusal n (amount f.frequency ∷ amount f.factor ∷ optional f.prescaler_division_factor ∷ [])

-- e says why the factor as a rate has no divisor, and why as a divisor it has no rate
abbrev pub NoQuotientFor : Formula → QuotientError → Type 0
NoQuotientFor f e =
    NoDivisor f.frequency f.factor f.prescaler_division_factor (quotient_refusal 4 6 e)
    × NoRate f.frequency f.factor f.prescaler_division_factor (quotient_refusal 18 19 e)
