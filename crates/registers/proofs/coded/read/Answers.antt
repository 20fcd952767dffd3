use Rattle.std.proofs.Math.Nat.{mod-mod}
use Rattle.registers.proofs.coded.read.Goals as goal

pub returns : goal.returns
returns g c = simp (c.read.ensures, c.FIELD.ensures, mod-mod) at c.from_code.ensures
