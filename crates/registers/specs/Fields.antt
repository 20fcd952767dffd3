-- Fields: neighbouring bits of a register that hold one value.
use Rattle.std.specs.Prelude.{◌≡◌, ℕ, ◌+◌, ◌/◌, ◌%◌, ◌^◌, ◌<◌, ◌≤◌}

-- the field of w bits at the place p of the byte v
abbrev pub field_at : ℕ → ℕ → ℕ → ℕ
field_at p w v = v / 2 ^ p % 2 ^ w

-- the bit at the place k
abbrev pub bit : ℕ → ℕ → ℕ
bit k v = field_at k 1 v

-- a byte has w bits at the place p, and others beside them
pub record IsInside (p w : ℕ) : Type 0 where
  pub starts : p < 8
  pub narrow : w < 8
  pub ends : p + w ≤ 8

-- after is before with x in the field of w bits at the place p: the bits below it and above it stay
pub record FieldSet (p w x before after : ℕ) : Type 0 where
  pub value : field_at p w after ≡ x
  pub below : after % 2 ^ p ≡ before % 2 ^ p
  pub above : after / 2 ^ (p + w) ≡ before / 2 ^ (p + w)

-- the codes of a value in a field of w bits: each fits, stands for itself, and is no other value's
pub record IsCoding {V : Type 0} (w : ℕ) (code : V → ℕ) (stands_for : ℕ → ℕ) : Type 0 where
  pub fits : (v : V) → code v < 2 ^ w
  pub itself : (v : V) → stands_for (code v) ≡ code v
  pub only : (v other : V) → code other ≡ code v → other ≡ v
