-- Hexadecimal: the letters that write a byte, and the words that write bytes.
use Rattle.std.specs.Prelude.{◌≡◌, ℕ, ◌+◌, ◌*◌, ◌<◌, cond, List, [], ◌∷◌, length, nat_lt, slice_index}

-- the letter of a digit: 0 to 9, then A to F
abbrev pub letter : ℕ → ℕ
letter n = cond (nat_lt n 10) (48 + n) (55 + n)

-- the character is the letter of this digit
pub record Digit (c n : ℕ) : Type 0 where
  pub small : n < 16
  pub written : letter n ≡ c

-- the two letters write this byte: the digit of its sixteens, then that of its ones
abbrev pub Writes : ℕ → ℕ → ℕ → Type 0
Writes high low b = (h : ℕ) × (l : ℕ) × (Digit high h × Digit low l × (b ≡ h * 16 + l))

-- the word writes these bytes, two letters each
pub record Spells (word bytes : List ℕ) : Type 0 where
  pub some : 0 < length bytes
  pub lengths : length word ≡ 2 * length bytes
  pub places : (i : ℕ) → i < length bytes → Writes (slice_index word (2 * i)) (slice_index word (2 * i + 1)) (slice_index bytes i)

-- what a word means: bytes, or a dash for none of them
pub data Means (word : List ℕ) : List ℕ → Type 0 where
  none : word ≡ 45 ∷ [] → Means word []
  these : (bytes : List ℕ) → Spells word bytes → Means word bytes
