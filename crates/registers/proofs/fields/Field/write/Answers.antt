use Rattle.std.proofs.Common.{◌≡◌, ◌+◌, ◌-◌, ◌*◌, ◌%◌, ◌^◌, ◌≤◌, sym, ap, ◌∙◌, subst, ap₂, arith}
use lib.Bits.{bit_and, bit_or}
use Rattle.std.proofs.lemmas.Nat.{one_shl, shl_whole, pow_pos}
use Rattle.registers.specs.Fields.{FieldSet}
use Rattle.registers.proofs.Masks.{mask_sets}
use Rattle.registers.proofs.fields.Field.write.Goals as goal

pub returns : goal.returns
returns c =
    let p = c.args.self.place in
    let w = c.args.self.width in
    let x = c.args.value in
    let whole : w + p ≤ 8 = omega arith in
    let ones : ((1 * 2 ^ w) % 256 - 1) * 2 ^ p % 256 ≡ (2 ^ w - 1) * 2 ^ p =
    ap (λ n. (n - 1) * 2 ^ p % 256) (one_shl w 8 c.args.self.inside.narrow) ∙ shl_whole (2 ^ w - 1) w p 8 (omega (arith, pow_pos w)) whole in
    subst (λ n. FieldSet p w x c.args.byte n)
    (sym (ap₂ (λ m n. bit_or (bit_and c.args.byte (255 - m)) n) ones (shl_whole x w p 8 c.requires whole)))
    (mask_sets p w x c.args.byte c.args.self.inside.ends c.ranges.byte.fits c.requires)
