-- Worked examples of the divisor formula, at the usual clock of 1,843,200 Hz.
use Rattle.std.specs.Prelude.{[], ◌∷◌, Some, None}
use Rattle.registers.specs.Refusal.{refusal, amount, optional}
use Rattle.registers.specs.Divisor.{DivisorOf, NoDivisor}
use Rattle.registers.specs.Rate.{NoRate}

pub record WorkedExamples : Type 0 where
  -- 16 × 9,600 × 12 and 16 × 115,200 are the clock
  pub rate_9600 : DivisorOf 1843200 9600 None 12
  pub rate_115200 : DivisorOf 1843200 115200 None 1
  -- 16 × 110 does not divide the clock
  pub rate_110 : NoDivisor 1843200 110 None (refusal 6 (amount 1843200 ∷ amount 110 ∷ optional None ∷ []))
  -- 16 × 1 goes into it 115,200 times, which two bytes do not hold
  pub rate_1 : NoDivisor 1843200 1 None (refusal 7 (amount 115200 ∷ []))
  -- the largest prescaler divides by 16 more
  pub prescaler_15 : DivisorOf 1843200 7200 (Some 15) 1
  pub prescaler_16 : NoDivisor 1843200 7200 (Some 16) (refusal 5 [])
  -- 7 does not divide 115,200
  pub divisor_7 : NoRate 1843200 7 None (refusal 19 (amount 1843200 ∷ amount 7 ∷ optional None ∷ []))
