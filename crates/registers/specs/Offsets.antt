-- Where the registers stand, by the datasheet's names.
use Rattle.std.specs.Prelude.{ℕ}

-- received characters are read here, and characters to send written, while divisor access is off
abbrev pub at_data : ℕ
at_data = 0

abbrev pub at_ier : ℕ
at_ier = 1

-- the interrupt status, on reads
abbrev pub at_isr : ℕ
at_isr = 2

-- the FIFO control, on writes
abbrev pub at_fcr : ℕ
at_fcr = 2

abbrev pub at_lcr : ℕ
at_lcr = 3

abbrev pub at_mcr : ℕ
at_mcr = 4

abbrev pub at_lsr : ℕ
at_lsr = 5

abbrev pub at_msr : ℕ
at_msr = 6

abbrev pub at_spr : ℕ
at_spr = 7

-- the divisor's low and high byte, while divisor access is on
abbrev pub at_dll : ℕ
at_dll = 0

abbrev pub at_dlm : ℕ
at_dlm = 1
