use Rattle.std.proofs.Common.{ap, ◌∙◌}
use Rattle.registers.proofs.coded.write.Goals as goal

pub returns : goal.returns
returns g c =
    let laws = g.met.C.Coded.laws in
    let set = rw (c.FIELD.ensures, c.code.ensures) at c.write.ensures in
    record {
      sets = set;
      back = λ other same. laws.only c.args.value other (same ∙ ap g.C.Coded.stands_for set.value ∙ laws.itself c.args.value);
    }
