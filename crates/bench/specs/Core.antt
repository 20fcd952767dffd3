-- The chip itself: what each access does once the line has moved.
use Rattle.std.specs.Prelude.{ℕ, Bool, cond, not, ◌&&◌, List, [], ◌∷◌, length, ◌==◌, bit_or, nat_lt}
use Rattle.registers.specs.Flags.{contains, fifo_enable, rx_fifo_reset, tx_fifo_reset, loop_back}
use Rattle.backends.specs.declared.character.Character.{Character}
use Rattle.backends.specs.Chip.{Fifos as Mode, is_on, capacity}
use Rattle.backends.specs.Rules.{unmarked}
use Rattle.bench.specs.declared.chip_core.Core.{Core}
use Rattle.bench.specs.declared.receiver.Receiver.{Receiver}
use Rattle.bench.specs.declared.transmitter.Transmitter.{Transmitter}
use Rattle.bench.specs.declared.settings.Fifos.{Fifos}
use Rattle.bench.specs.declared.settings.Fifos.TheVariants.{Absent, Off, On}
use Rattle.bench.specs.declared.settings.Settings.{Settings}
use Rattle.bench.specs.declared.modem.Modem.{Modem}
use Rattle.bench.specs.Flag.{flagged}
use Rattle.bench.specs.Table.{entry_of}
use Rattle.bench.specs.Settings.{mode, loops, reaches_divisor, scratch_byte, scratch_kept, with_fifos, with_ier, with_lcr, with_mcr, with_dll, with_dlm}
use Rattle.bench.specs.Receiver.{reached, data_byte, taken, emptied, noticed, any_marked}
use Rattle.bench.specs.Transmitter.{filling, sent, struck, unlooped}
use Rattle.bench.specs.Modem.{latched, shown, unchanged}

abbrev pub with_receiver : Core → Receiver → Core
with_receiver s r = record s { receiver = r }

abbrev pub with_transmitter : Core → Transmitter → Core
with_transmitter s t = record s { transmitter = t }

abbrev pub with_settings : Core → Settings → Core
with_settings s g = record s { settings = g }

abbrev pub with_modem : Core → Modem → Core
with_modem s m = record s { modem = m }

-- one more character may be lost, so one may reach the receiver
abbrev pub accepting : Core → Bool
accepting s = nat_lt s.receiver.counts.lost 18446744073709551615

-- this character reaches the receiver
abbrev pub reaching : Core → Character → Receiver
reaching s c = reached (mode s.settings.fifos) c s.receiver

-- the oldest of these looped bytes comes round
abbrev pub come_round : List ℕ → Core → Core
come_round [] s = s
come_round (b ∷ bs) s = record s { receiver = reaching s (unmarked b); transmitter = record s.transmitter { turning = bs } }

-- in loop mode the oldest byte comes round
abbrev pub turned : Core → Core
turned s = cond (accepting s) (come_round s.transmitter.turning s) s

-- Reads

-- bit 7 of the line status: FIFOs are on, and a waiting character bears a mark
abbrev pub data_error : Mode → List Character → Bool
data_error f cs = is_on f && any_marked cs

-- the line status of these tests
abbrev pub status_byte : Bool → Bool → Bool → Bool → Bool → Bool → Bool → ℕ
status_byte ready overrun parity framing broken idle error =
    bit_or (bit_or (bit_or (bit_or (bit_or (bit_or
    (flagged ready 0x01) (flagged overrun 0x02)) (flagged parity 0x04)) (flagged framing 0x08)) (flagged broken 0x10))
    (flagged idle 0x60)) (flagged error 0x80)

-- the line status: bits 5 and 6 agree
abbrev pub status : Core → ℕ
status s = status_byte
    (nat_lt 0 (length s.receiver.queue))
    (nat_lt s.receiver.seen.lost s.receiver.counts.lost)
    (nat_lt s.receiver.seen.parity s.receiver.counts.parity)
    (nat_lt s.receiver.seen.framing s.receiver.counts.framing)
    (nat_lt s.receiver.seen.broken s.receiver.counts.broken)
    (filling s.transmitter == 0)
    (data_error (mode s.settings.fifos) s.receiver.queue)

-- no interrupt, and whether the FIFOs are on
abbrev pub interrupts_shown : Settings → ℕ
interrupts_shown g = cond (is_on (mode g.fifos)) 0xC1 0x01

-- a read of offset 0, and the chip after it
abbrev pub data_answer : Core → ℕ
data_answer s = cond (reaches_divisor s.settings) s.settings.dll (data_byte s.receiver.queue)

abbrev pub data_answered : Core → Core
data_answered s = cond (reaches_divisor s.settings) s (with_receiver s (taken s.receiver))

-- the byte that a register gives
abbrev pub answer : Core → ℕ → ℕ
answer s k = entry_of k
    (data_answer s)
    (cond (reaches_divisor s.settings) s.settings.dlm s.settings.ier)
    (interrupts_shown s.settings)
    s.settings.lcr
    s.settings.mcr
    (status s)
    (shown s.modem s.settings.mcr)
    (scratch_byte s.settings.scratch)

-- the chip after the read
abbrev pub answered : Core → ℕ → Core
answered s k = entry_of k
    (data_answered s)
    s
    s
    s
    s
    (with_receiver s (noticed s.receiver))
    (with_modem s (unchanged s.modem))
    s

-- Writes

-- the FIFOs are turned on or off
abbrev pub switched : Fifos → Core → Core
switched f s = record s { receiver = emptied s.receiver; transmitter = struck; settings = with_fifos s.settings f }

-- the FIFOs stay on: two bits empty one queue each
abbrev pub reset : ℕ → Core → Core
reset v s = record s {
  receiver = cond (contains v rx_fifo_reset) (emptied s.receiver) s.receiver;
  transmitter = cond (contains v tx_fifo_reset) struck s.transmitter;
}

-- the FIFO control is written
abbrev pub controlled : Fifos → ℕ → Core → Core
controlled Absent v s = s
controlled Off v s = cond (contains v fifo_enable) (switched On s) s
controlled On v s = cond (contains v fifo_enable) (reset v s) (switched Off s)

-- the modem control is written
abbrev pub modem_controlled : ℕ → Core → Core
modem_controlled v s = record s {
  transmitter = cond (loops s.settings && not (contains v loop_back)) (unlooped s.transmitter) s.transmitter;
  settings = with_mcr s.settings v;
  modem = latched s.modem s.settings.mcr v;
}

-- offset 0 is written
abbrev pub data_written : Core → ℕ → Core
data_written s v =
    cond (reaches_divisor s.settings) (with_settings s (with_dll s.settings v))
    (with_transmitter s (sent (loops s.settings) (capacity (mode s.settings.fifos)) v s.transmitter))

-- the registers that only keep what is written: offsets 1, 3 and 7
abbrev pub interrupts_kept : ℕ → Settings → Settings
interrupts_kept v g = cond (reaches_divisor g) (with_dlm g v) (with_ier g v)

-- the chip after a write
abbrev pub written : Core → ℕ → ℕ → Core
written s k v = entry_of k
    (data_written s v)
    (with_settings s (interrupts_kept v s.settings))
    (controlled s.settings.fifos v s)
    (with_settings s (with_lcr s.settings v))
    (modem_controlled v s)
    s
    s
    (with_settings s (scratch_kept v s.settings))
