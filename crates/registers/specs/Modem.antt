-- The modem status register: bits 4 to 7 are the lines CTS, DSR, RI and CD, and bits 0 to 3 tell of their changes.
use Rattle.std.specs.Prelude.{◌≡◌, ℕ, ◌-◌, ◌<◌, cond, ◌==◌}
use Rattle.registers.specs.Fields.{bit}

-- 1 where the bit at the place k differs
abbrev pub changed : ℕ → ℕ → ℕ → ℕ
changed k old new = cond (bit k old == bit k new) 0 1

-- 1 where the bit at the place k was set and is clear
abbrev pub fell : ℕ → ℕ → ℕ → ℕ
fell k old new = bit k old - bit k new

-- r tells which lines changed: CTS, DSR and CD either way, RI only where it fell
pub record LineChanges (old new r : ℕ) : Type 0 where
  pub cts : bit 0 r ≡ changed 4 old new
  pub dsr : bit 1 r ≡ changed 5 old new
  pub ri : bit 2 r ≡ fell 6 old new
  pub cd : bit 3 r ≡ changed 7 old new
  pub others : r < 16
