use Rattle.std.proofs.Common.{◌≡◌, ℕ, ◌+◌, ◌*◌, ◌/◌, ◌%◌, ◌<◌, ap, ap₂, ◌∙◌, arith}
use lib.Bits.{bit_or}
use Rattle.registers.specs.Modem.{LineChanges}
use Rattle.bench.specs.Modem.{line_changes}
use Rattle.bench.proofs.modem.Modem.latch.Goals as goal

four_bits : (r : ℕ) → r < 16 → r ≡ r % 2 + 2 * (r / 2 % 2) + 4 * (r / 4 % 2) + 8 * (r / 8 % 2)
four_bits r h =
    let a : r / 4 ≡ r / 2 / 2 = omega arith in
    let b : r / 8 ≡ r / 4 / 2 = omega arith in
    let x : r ≡ r % 2 + 2 * (r / 2) = omega arith in
    let y : r / 2 ≡ r / 2 % 2 + 2 * (r / 4) = omega arith in
    let z : r / 4 ≡ r / 4 % 2 + 2 * (r / 8) = omega arith in
    let w : r / 8 % 2 ≡ r / 8 = omega arith in
    omega arith

-- a number of four bits that tells of the changes is their sum
changes_are : (old new r : ℕ) → LineChanges old new r → r ≡ line_changes old new
changes_are old new r h = let e = four_bits r h.others in omega arith

pub returns : goal.returns
returns c =
    let m = c.args.self.now in
    ap (λ n. record m { changes = bit_or m.changes n }) (changes_are _ _ _ c.modem_line_changes.ensures ∙ ap₂ line_changes c.lines-before.ensures c.lines-after.ensures)
