use Rattle.std.proofs.Common.{refl}
use Rattle.backends.proofs.Windows.{shows}
use Rattle.backends.proofs.window.Window.new.Goals as goal

pub returns : goal.returns
returns g c =
    record { made = refl; shows = shows g.B.Backend.device (record { place = c.args.place; backend = c.args.backend }) }
