-- The pace: on which accesses a byte leaves or comes round.
use Rattle.std.specs.Prelude.{◌+◌, Bool, cond, nat_le}
use Rattle.bench.specs.declared.pace.Pace.{Pace}

abbrev pub beats : Pace → Bool
beats p = nat_le p.between p.passed

abbrev pub passed : Pace → Pace
passed p = record p { passed = cond (beats p) 0 (p.passed + 1) }
