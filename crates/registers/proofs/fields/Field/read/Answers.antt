use Rattle.std.proofs.Common.{◌-◌, ◌/◌, ◌^◌, ap, ◌∙◌}
use lib.Bits.{bit_and, and_mask}
use Rattle.std.proofs.lemmas.Nat.{one_shl}
use Rattle.registers.proofs.fields.Field.read.Goals as goal

pub returns : goal.returns
returns c =
    ap (λ m. bit_and (c.args.byte / 2 ^ c.args.self.place) (m - 1)) (one_shl c.args.self.width 8 c.args.self.inside.narrow)
    ∙ and_mask (c.args.byte / 2 ^ c.args.self.place) c.args.self.width
