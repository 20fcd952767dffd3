-- Register bits, by masks: the names are the datasheet's.
use Rattle.std.specs.Prelude.{ℕ, Bool, not, ◌==◌, bit_and}

-- all bits of the mask m are set in the byte v
unfoldable pub contains : ℕ → ℕ → Bool
contains v m = bit_and v m == m

-- some bit of the mask m is set in the byte v
unfoldable pub meets : ℕ → ℕ → Bool
meets v m = not (bit_and v m == 0)

-- the line status: a character waits
abbrev pub data_ready : ℕ
data_ready = 0x01

-- the four errors that a read of the line status clears: overrun, parity, framing, break
abbrev pub line_errors : ℕ
line_errors = 0x1E

-- nothing waits to be sent
abbrev pub transmitter_empty : ℕ
transmitter_empty = 0x40

-- the interrupt status: both bits are set while the FIFOs are on
abbrev pub fifos_on : ℕ
fifos_on = 0xC0

-- the line control: the divisor's bytes are reached
abbrev pub divisor_access : ℕ
divisor_access = 0x80

-- the line status: a character was lost; the first waiting one had a wrong parity bit, no stop bit, or was a break
abbrev pub overrun_error : ℕ
overrun_error = 0x02

abbrev pub parity_error : ℕ
parity_error = 0x04

abbrev pub framing_error : ℕ
framing_error = 0x08

abbrev pub break_interrupt : ℕ
break_interrupt = 0x10

-- there is room to send
abbrev pub thr_empty : ℕ
thr_empty = 0x20

-- the FIFO control: FIFOs on, receive FIFO emptied, transmit FIFO emptied
abbrev pub fifo_enable : ℕ
fifo_enable = 0x01

abbrev pub rx_fifo_reset : ℕ
rx_fifo_reset = 0x02

abbrev pub tx_fifo_reset : ℕ
tx_fifo_reset = 0x04

-- the modem control: loop mode
abbrev pub loop_back : ℕ
loop_back = 0x10

-- the modem status: the four changes that a read clears
abbrev pub line_changes : ℕ
line_changes = 0x0F

-- the remote is ready to receive; the remote is there
abbrev pub clear_to_send : ℕ
clear_to_send = 0x10

abbrev pub data_set_ready : ℕ
data_set_ready = 0x20
