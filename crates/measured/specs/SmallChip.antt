-- A small simulated chip: a ring of received characters, and registers that keep what is written.
use Rattle.std.specs.Prelude.{ℕ, ◌+◌, ◌-◌, ◌%◌, cond, eqb, ltb, get_or, set, replicate}
use Rattle.std.specs.Int.Bits.{bit_and}
use Rattle.backends.specs.Device.{Device}
use Rattle.measured.specs.declared.small_chip.SmallChip.{SmallChip}
use Rattle.measured.specs.Sum.{mixed}

-- a chip whose line has so many characters left, and these bits wired
abbrev pub quiet : ℕ → ℕ → SmallChip
quiet left wired = record { ring = replicate 16 0; head = 0; tail = 0; left = left; registers = replicate 8 0; wired = wired; sum = 0 }

-- the next character of the line goes to the head of the ring: the low byte of how many are left
abbrev pub arrived : SmallChip → SmallChip
arrived s = cond (ltb 0 s.left)
    (record { ring = set s.ring (s.head % 16) (s.left % 256); head = (s.head + 1) % 256; tail = s.tail; left = s.left - 1; registers = s.registers; wired = s.wired; sum = s.sum })
    s

-- the line status: a character waits where head and tail differ
abbrev pub status : SmallChip → ℕ
status s = cond (eqb s.head s.tail) 0x60 0x61

-- the oldest character, and the chip without it
abbrev pub oldest : SmallChip → ℕ
oldest s = cond (eqb s.head s.tail) 0 (get_or s.ring (s.tail % 16) 0)

abbrev pub taken : SmallChip → SmallChip
taken s = cond (eqb s.head s.tail) s
    (record { ring = s.ring; head = s.head; tail = (s.tail + 1) % 256; left = s.left; registers = s.registers; wired = s.wired; sum = s.sum })

-- what can be read of a register that keeps what is written
abbrev pub kept_at : SmallChip → ℕ → ℕ
kept_at s k = bit_and (get_or s.registers k 0) s.wired

-- the interrupt status, by the FIFO control's lowest bit
abbrev pub identity : SmallChip → ℕ
identity s = cond (eqb (kept_at s 2 % 2) 1) 0xC1 0x01

-- what was written is kept; a write of the FIFO control empties the ring
abbrev pub stored : SmallChip → ℕ → ℕ → SmallChip
stored s k v = record {
  ring = s.ring;
  head = s.head;
  tail = cond (eqb k 2) s.head s.tail;
  left = s.left;
  registers = set s.registers k v;
  wired = s.wired;
  sum = mixed s.sum k v;
}

-- what a read of a register gives, and the chip after it
abbrev pub answer : SmallChip → ℕ → ℕ
answer s k = cond (eqb k 0) (oldest s) (cond (eqb k 5) (status (arrived s)) (cond (eqb k 2) (identity s) (kept_at s k)))

abbrev pub answered : SmallChip → ℕ → SmallChip
answered s k = cond (eqb k 0) (taken s) (cond (eqb k 5) (arrived s) s)

abbrev pub chip_device : Device SmallChip
chip_device = record { reader = record { gives = answer; next = answered }; write = stored }
