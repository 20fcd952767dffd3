use Rattle.std.proofs.Common.{refl, arith}
use Rattle.backends.proofs.Faithful.{faithful}
use Rattle.backends.proofs.recorder.Recording.new.Goals as goal

pub returns : goal.returns
returns g c =
    record { holds = refl; faithful = faithful g.row.ROOM (omega (arith, g.ROOM.fits)) g.B.Backend.device (record { inner = c.args.inner; log = c.new.result }) c.new.ensures }
