use Rattle.std.proofs.Common.{◌≡◌, sym, refl, ◌∙◌, arith}
use lib.Count.{ones}
use Rattle.std.proofs.lemmas.Bool.{eqb-true, eqb-false}
use Rattle.backends.specs.Place.{bad_stride, too_high}
use Rattle.backends.proofs.Powers.{one_set, power_ones}
use Rattle.backends.proofs.place.MmioPlace.new.Goals as goal

pub returns-then-not-is_power_of_two : goal.returns-then-not-is_power_of_two
returns-then-not-is_power_of_two c =
    bad_stride (λ q. eqb-false (ones c.args.stride) 1 (sym c.is_power_of_two.ensures ∙ c.if-not-is_power_of_two.true) (power_ones c.args.stride q))

pub returns-then-base-from : goal.returns-then-base-from
returns-then-base-from c =
    let one : ones c.args.stride ≡ 1 = eqb-true (ones c.args.stride) 1 (sym c.if-not-is_power_of_two.ensures) in
    too_high (one_set 8 c.args.stride (omega arith) one) (omega arith)

pub returns : goal.returns
returns c =
    let one : ones c.args.stride ≡ 1 = eqb-true (ones c.args.stride) 1 (sym c.if-not-is_power_of_two.ensures) in
    (record { power = one_set 8 c.args.stride (omega arith) one; last = omega arith }, refl, refl)
