-- The sum over the writes of a run.
use Rattle.std.specs.Prelude.{ℕ, ◌+◌, ◌*◌, ◌/◌, ◌%◌, ◌^◌}
use Rattle.std.specs.Int.Bits.{bit_or, bit_xor}

-- 32 bits turned left by five places
abbrev pub turned : ℕ → ℕ
turned n = bit_or ((n * 2 ^ 5) % 2 ^ 32) (n / 2 ^ 27)

-- the sum after a write of the byte v to the register k
abbrev pub mixed : ℕ → ℕ → ℕ → ℕ
mixed sum k v = bit_xor (turned sum) (k * 256 + v)
