-- Bits of a register that a chip shows.
use Rattle.std.specs.Prelude.{ℕ, Bool, cond}

-- the mask where the test holds
abbrev pub flagged : Bool → ℕ → ℕ
flagged b mask = cond b mask 0
