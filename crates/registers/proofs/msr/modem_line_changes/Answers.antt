use Rattle.std.proofs.Common.{◌≡◌, ℕ, ◌+◌, ◌-◌, ◌/◌, ◌≤◌, min, max, ◌∙◌, subst, arith}
use lib.Bits.{bit_and, bit_or, bit_xor, and_le_r, or_lt}
use Rattle.registers.specs.Fields.{bit}
use Rattle.registers.specs.Modem.{changed}
use Rattle.registers.proofs.Bits.{bit_of_or, bit_of_and, bit_of_xor, bit_of_shr, bit_le}
use Rattle.registers.proofs.msr.modem_line_changes.Goals as goal

-- the change bit at j is the line's four places above, by its mask
told : (old new j : ℕ)
    → bit j (bit_or (bit_and (bit_xor old new / 16) 11) (bit_and (bit_and old (255 - new) / 16) 4))
    ≡ max (min (changed (4 + j) old new) (bit j 11)) (min (min (bit (4 + j) old) (bit (4 + j) (255 - new))) (bit j 4))
told old new j = simp (bit_of_or, bit_of_and, bit_of_shr 4, bit_of_xor)

either : (k old new : ℕ) → changed k old new ≤ 1
either k old new = subst (λ n. n ≤ 1) (bit_of_xor k old new) (bit_le k (bit_xor old new))

pub returns : goal.returns
returns c =
    let old = c.args.old in
    let new = c.args.new in
    let low = bit_and (bit_xor old new / 16) 11 in
    let ring = bit_and (bit_and old (255 - new) / 16) 4 in
    record {
      cts = told old new 0 ∙ omega (arith, either 4 old new);
      dsr = told old new 1 ∙ omega (arith, either 5 old new);
      ri = told old new 2 ∙ omega (arith, either 6 old new);
      cd = told old new 3 ∙ omega (arith, either 7 old new);
      others = or_lt 4 low ring (omega (arith, and_le_r (bit_xor old new / 16) 11)) (omega (arith, and_le_r (bit_and old (255 - new) / 16) 4));
    }
