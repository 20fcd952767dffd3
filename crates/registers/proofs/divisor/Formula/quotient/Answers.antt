use Rattle.std.proofs.Common.{◌≡◌, ℕ, ◌+◌, ◌*◌, ◌/◌, ◌<◌, sym, ap, ◌∙◌, mul_comm, mul_right_comm, mul-pos, arith}
use native.Mathlib.Nat.{div-eq_of_eq-mul_right}
use Rattle.registers.specs.Divisor.{prescaled, NoQuotient, zero_frequency, zero_rate, large_prescaler, no_integer}
use Rattle.registers.specs.Rate as rate
use Rattle.registers.proofs.divisor.Formula.quotient.Goals as goal

-- a solution is the quotient, so the quotient solves it too
exact : (unit f : ℕ) → 0 < unit → (q : ℕ) → unit * q ≡ f → f / unit * unit ≡ f
exact unit f pos q e = ap (λ n. n * unit) (div-eq_of_eq-mul_right pos (sym e)) ∙ mul_comm q unit ∙ e

pub returns-then-frequency-eq0 : goal.returns-then-frequency-eq0
returns-then-frequency-eq0 c = (zero_frequency (omega arith), rate.zero_frequency (omega arith))

pub returns-then-factor-eq0 : goal.returns-then-factor-eq0
returns-then-factor-eq0 c = (zero_rate (omega arith) (omega arith), rate.zero_divisor (omega arith) (omega arith))

pub returns-then-prescaler-gt15 : goal.returns-then-prescaler-gt15
returns-then-prescaler-gt15 c =
    (large_prescaler (omega arith) (omega arith) (omega arith), rate.large_prescaler (omega arith) (omega arith) (omega arith))

pub returns-then-n-unit : goal.returns-then-n-unit
returns-then-n-unit c =
    let f = c.args.self in
    let none : NoQuotient f.frequency f.factor (prescaled f.prescaler_division_factor) = λ q e.
    let pos : 0 < 16 * (prescaled f.prescaler_division_factor + 1) * f.factor = mul-pos (omega arith) (omega arith) in
    let solved : c.from-3.result / (16 * (c.from.result + 1) * c.from-2.result) * (16 * (c.from.result + 1) * c.from-2.result) ≡ c.from-4.result =
    simp (c.from.ensures, c.from-2.ensures, c.from-3.ensures, c.from-4.ensures, c.unwrap_or-prescaler.ensures) (exact _ _ pos q e) in
    omega arith in (
      no_integer (omega arith) (omega arith) (omega arith) none,
      rate.no_integer (omega arith) (omega arith) (omega arith) (λ r e. none r (mul_right_comm _ f.factor r ∙ e)),
    )
