use Rattle.std.proofs.Common.{arith}
use Rattle.registers.specs.Divisor.{too_large}
use Rattle.registers.proofs.divisor.calc_divisor.Goals as goal

pub returns-then-divisor-gt-MAX_DIVISOR : goal.returns-then-divisor-gt-MAX_DIVISOR
returns-then-divisor-gt-MAX_DIVISOR c =
    let q = c.in_ok-divisor.ensures in
    too_large q.frequency q.factor q.prescaler c.in_ok-divisor.divisor q.equation (omega arith)
