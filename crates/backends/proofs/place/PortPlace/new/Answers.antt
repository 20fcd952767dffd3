use Rattle.std.proofs.Common.{arith}
use Rattle.backends.specs.Place.{too_high_port}
use Rattle.backends.proofs.place.PortPlace.new.Goals as goal

pub returns-then-base : goal.returns-then-base
returns-then-base c = simp c.from.ensures (too_high_port (omega arith))
