use Rattle.std.proofs.Common.{refl}
use Rattle.backends.proofs.Pairs.{splits}
use Rattle.backends.proofs.pair.Pair.new.Goals as goal

pub returns : goal.returns
returns g c = record {
  made = refl;
  splits = splits g.F.Space.bus g.G.Space.bus (record { boundary = c.args.boundary; first = c.args.first; second = c.args.second });
}
