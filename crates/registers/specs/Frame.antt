-- The line control register: bits 0 and 1 are the word length, bit 2 the extra stop bit, bits 3 to 5 the parity.
use Rattle.std.specs.Prelude.{ℕ, ◌+◌, ◌*◌, ◌%◌, Bool, cond, ◌&&◌, ◌==◌, nat_le}
use Rattle.registers.specs.declared.lcr.WordLength.{WordLength}
use Rattle.registers.specs.declared.lcr.WordLength.TheVariants.{FiveBits, SixBits, SevenBits, EightBits}
use Rattle.registers.specs.declared.lcr.Parity.{Parity}
use Rattle.registers.specs.declared.lcr.Parity.TheVariants.{Disabled, Odd, Even, Forced1, Forced0}

-- the two-bit code of a word length
abbrev pub word_code : WordLength → ℕ
word_code FiveBits = 0
word_code SixBits = 1
word_code SevenBits = 2
word_code EightBits = 3

-- a word has five bits at code 0, and one more at each further code
abbrev pub word_bits : WordLength → ℕ
word_bits w = 5 + word_code w

-- the number itself where it is a word length, and 8 elsewhere
abbrev pub word_bits_or_8 : ℕ → ℕ
word_bits_or_8 n = cond (nat_le 5 n && nat_le n 8) n 8

-- the three-bit code of a parity: bit 0 turns it on, bit 1 makes it even, bit 2 forces it to the inverse of bit 1
abbrev pub parity_code : Parity → ℕ
parity_code Disabled = 0
parity_code Odd = 1
parity_code Even = 3
parity_code Forced1 = 5
parity_code Forced0 = 7

-- the code that three bits stand for: they count only while the lowest is set
abbrev pub parity_bits : ℕ → ℕ
parity_bits n = cond (n % 2 == 1) n 0

-- the byte for a frame, with break and divisor access off
abbrev pub frame : WordLength → Bool → Parity → ℕ
frame w stop p = word_code w + cond stop 4 0 + 8 * parity_code p
