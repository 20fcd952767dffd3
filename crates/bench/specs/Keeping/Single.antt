-- Without FIFOs at most one character waits.
use Rattle.std.specs.Prelude.{◌≡◌, ◌≤◌, false, length}
use Rattle.std.proofs.Common.{arith, true≢false}
use Rattle.backends.specs.Chip.{Fifos, absent, off, on, is_on, capacity}
use Rattle.bench.specs.declared.chip_core.Core.{Core}
use Rattle.bench.specs.Settings.{mode}
use Rattle.bench.specs.Sound.{Bounded}

-- there is room for one only
one_room : (f : Fifos) → is_on f ≡ false → capacity f ≤ 1
one_room absent e = omega arith
one_room off e = omega arith
one_room on e = absurd (true≢false e)

pub single_waits : (s : Core) → Bounded s → is_on (mode s.settings.fifos) ≡ false → length s.receiver.queue ≤ 1
single_waits s h e = omega (arith, one_room (mode s.settings.fifos) e)
