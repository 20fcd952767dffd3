-- The places that are worked out by hand, and what a call that asks for them answers.
use Rattle.std.proofs.Common.{◌≡◌, ℕ, true, false, is_ok, Ok, Err, Result, refl, arith}
use lib.Count.{ones}
use Rattle.registers.specs.Refusal.{Refusal, address_refusal}
use Rattle.registers.specs.declared.error.InvalidAddressError.{InvalidAddressError}
use Rattle.backends.specs.declared.place.MmioPlace.{MmioPlace}
use Rattle.std.specs.Int.{IsPowerOfTwo}
use Rattle.backends.specs.Place.{MmioFits, NoMmio, bad_stride, too_high}
use Rattle.backends.specs.Worked.{WorkedAddresses}
use Rattle.backends.proofs.Powers.{power_ones}

-- what the call that makes a place promises
abbrev pub Answers : ℕ → ℕ → Result MmioPlace InvalidAddressError → Type 0
Answers base stride (Ok p) = MmioFits base stride × (p.base ≡ base) × (p.stride ≡ stride)
Answers base stride (Err e) = NoMmio base stride (address_refusal e)

-- a place that fits is not refused
pub not_both : (base stride : ℕ) (r : Refusal) → MmioFits base stride → NoMmio base stride r → ⊥
not_both base stride r f (bad_stride no_power) = no_power f.power
not_both base stride r f (too_high power high) = omega (arith, f.last)

-- so a call that answers by one of the two answers yes where it fits,
pub fits_ok : (base stride : ℕ) (r : Result MmioPlace InvalidAddressError) → Answers base stride r → MmioFits base stride → is_ok r ≡ true
fits_ok base stride (Ok p) a f = refl
fits_ok base stride (Err e) a f = absurd (not_both base stride (address_refusal e) f a)

-- and no where it is refused
pub refused_not_ok : (base stride : ℕ) (r : Result MmioPlace InvalidAddressError) (why : Refusal) → Answers base stride r → NoMmio base stride why → is_ok r ≡ false
refused_not_ok base stride (Ok p) why a n = absurd (not_both base stride why a.0 n)
refused_not_ok base stride (Err e) why a n = refl

-- three is no power of two
three : IsPowerOfTwo 3 → ⊥
unfolding ones
three q = let e : ◌≡◌ {A = ℕ} 2 1 = power_ones 3 q in omega arith

pub examples : WorkedAddresses
examples = record {
  last_that_fits = record { power = (0, refl); last = omega arith };
  one_past = too_high (0, refl) (omega arith);
  three_there = bad_stride three;
  three_below = bad_stride three;
}
