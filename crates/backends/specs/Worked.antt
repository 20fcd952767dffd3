-- The examples that are worked out by hand: divisors, and places at the end of the 64-bit addresses.
use Rattle.std.specs.Prelude.{ℕ, ◌-◌, ◌^◌, [], ◌∷◌}
use Rattle.registers.specs.Examples.{WorkedExamples}
use Rattle.registers.specs.Refusal.{refusal, amount}
use Rattle.backends.specs.Place.{MmioFits, NoMmio}

abbrev pub largest_address : ℕ
largest_address = 2 ^ 64 - 1

pub record WorkedAddresses : Type 0 where
  pub last_that_fits : MmioFits (largest_address - 7) 1
  pub one_past : NoMmio (largest_address - 6) 1 (refusal 2 (amount (largest_address - 6) ∷ []))
  pub three_there : NoMmio (largest_address - 6) 3 (refusal 1 (amount 3 ∷ []))
  pub three_below : NoMmio (largest_address - 7) 3 (refusal 1 (amount 3 ∷ []))

-- all of them
pub record AllWorked : Type 0 where
  pub divisors : WorkedExamples
  pub addresses : WorkedAddresses
