-- The rules of a 16550: how each access changes what the chip holds, and what reads show.
use Rattle.std.specs.Prelude.{◌≡◌, ℕ, ◌+◌, ◌-◌, ◌<◌, ◌≤◌, Bool, true, false, cond, not, ◌&&◌, List, [], ◌∷◌, ◌++◌, length, take, drop, ◌==◌, bit_and, nat_lt}
use Rattle.registers.specs.Flags.{contains, data_ready, overrun_error, parity_error, framing_error, break_interrupt, thr_empty, transmitter_empty, fifos_on, fifo_enable, rx_fifo_reset, tx_fifo_reset, loop_back}
use Rattle.registers.specs.Offsets.{at_data, at_ier, at_isr, at_fcr, at_lcr, at_mcr, at_lsr, at_msr, at_spr, at_dll, at_dlm}
use Rattle.backends.specs.declared.character.Character.{Character}
use Rattle.backends.specs.declared.character.Counts.{Counts}
use Rattle.backends.specs.Chip.{ChipState, Receiver, Transmitter, Setup, Fifos, absent, off, on, is_on, capacity, divisor_reached, looping, with_receiver, with_transmitter, with_setup}
use Rattle.backends.specs.Device.{Device}

-- Arrivals

abbrev pub one_more : Bool → ℕ → ℕ
one_more b n = cond b (n + 1) n

-- a character becomes the first of the waiting: each of its marks is an event
abbrev pub first : Character → Counts → Counts
first c n = record {
  lost = n.lost;
  parity = one_more c.parity n.parity;
  framing = one_more c.framing n.framing;
  broken = one_more c.broken n.broken;
}

-- a character is lost
abbrev pub overrun : Counts → Counts
overrun n = record { lost = n.lost + 1; parity = n.parity; framing = n.framing; broken = n.broken }

-- the events when a character joins the end of this queue: in an empty one it is the first
abbrev pub joining : List Character → Character → Counts → Counts
joining [] c n = first c n
joining (w ∷ ws) c n = n

-- a character reaches the receiver; `came` is what counts as arrived from the line
abbrev pub reach : Fifos → List Character → Character → Receiver → Receiver
reach f came c r =
    cond (nat_lt (length r.waiting) (capacity f))
    (record { waiting = r.waiting ++ (c ∷ []); arrived = r.arrived ++ came; counts = joining r.waiting c r.counts; seen = r.seen })
    (cond (is_on f)
    -- the newcomer is dropped
    (record { waiting = r.waiting; arrived = r.arrived ++ came; counts = overrun r.counts; seen = r.seen })
    -- it replaces the waiting one
    (record { waiting = c ∷ []; arrived = r.arrived ++ came; counts = first c (overrun r.counts); seen = r.seen }))

-- characters arrive from the line, in this order
abbrev pub arrive : Fifos → List Character → Receiver → Receiver
arrive f [] r = r
arrive f (c ∷ cs) r = arrive f cs (reach f (c ∷ []) c r)

-- a byte without marks
abbrev pub unmarked : ℕ → Character
unmarked b = record { byte = b; parity = false; framing = false; broken = false }

-- looped bytes come round, in this order: they reach the receiver, but do not come from the line
abbrev pub come_round : Fifos → List ℕ → Receiver → Receiver
come_round f [] r = r
come_round f (b ∷ bs) r = come_round f bs (reach f [] (unmarked b) r)

-- Before an access acts

-- outside loop mode characters arrive, and held bytes leave
pub record LineMoved (m n : ChipState) : Type 0 where
  pub arrivals : List Character
  pub gone : ℕ
  pub enough : gone ≤ m.transmitter.held
  pub after : n ≡ record {
    receiver = arrive m.setup.fifos arrivals m.receiver;
    transmitter = record { given = m.transmitter.given; held = m.transmitter.held - gone; turning = m.transmitter.turning };
    setup = m.setup;
  }

-- in loop mode the oldest looped bytes come round
pub record LoopMoved (m n : ChipState) : Type 0 where
  pub rounds : ℕ
  pub enough : rounds ≤ length m.transmitter.turning
  pub after : n ≡ record {
    receiver = come_round m.setup.fifos (take rounds m.transmitter.turning) m.receiver;
    transmitter = record { given = m.transmitter.given; held = m.transmitter.held; turning = drop rounds m.transmitter.turning };
    setup = m.setup;
  }

pub record Moved (m n : ChipState) : Type 0 where
  pub line : looping m ≡ false → LineMoved m n
  pub loop : looping m ≡ true → LoopMoved m n

-- Reads

abbrev pub some_wait : List Character → Bool
some_wait [] = false
some_wait (c ∷ cs) = true

-- nothing is left to send
abbrev pub idle : Transmitter → Bool
idle t = t.held + length t.turning == 0

-- what the line status shows; bit 7 is free
pub record Status (m : ChipState) (v : ℕ) : Type 0 where
  pub ready : contains v data_ready ≡ some_wait m.receiver.waiting
  pub overrun : contains v overrun_error ≡ nat_lt m.receiver.seen.lost m.receiver.counts.lost
  pub parity : contains v parity_error ≡ nat_lt m.receiver.seen.parity m.receiver.counts.parity
  pub framing : contains v framing_error ≡ nat_lt m.receiver.seen.framing m.receiver.counts.framing
  pub broken : contains v break_interrupt ≡ nat_lt m.receiver.seen.broken m.receiver.counts.broken
  pub room : contains v thr_empty ≡ idle m.transmitter
  pub empty : contains v transmitter_empty ≡ true → idle m.transmitter ≡ true

-- the events are seen
abbrev pub noticed : Receiver → Receiver
noticed r = record { waiting = r.waiting; arrived = r.arrived; counts = r.counts; seen = r.counts }

-- the events when the first of these has been read: the next becomes the first
abbrev pub next_first : List Character → Counts → Counts
next_first [] n = n
next_first (c ∷ cs) n = first c n

-- a read of the data register takes the first of the waiting; where none waits its byte is free
abbrev pub Takes : List Character → ChipState → ℕ → ChipState → Type 0
Takes [] m v n = n ≡ m
Takes (c ∷ cs) m v n = (v ≡ c.byte) × (n ≡ with_receiver m (record
    { waiting = cs; arrived = m.receiver.arrived; counts = next_first cs m.receiver.counts; seen = m.receiver.seen }))

-- both FIFO bits of the interrupt status are set, or both are clear; the others are free
abbrev pub ShowsFifos : Bool → ℕ → Type 0
ShowsFifos true v = contains v fifos_on ≡ true
ShowsFifos false v = bit_and v fifos_on ≡ 0

-- the read of a register that gives v: what the chip held when the access acted, and what it holds then
pub record Reads (m : ChipState) (k v : ℕ) (n : ChipState) : Type 0 where
  pub taken : k ≡ at_data → divisor_reached m ≡ false → Takes m.receiver.waiting m v n
  pub divisor_low : k ≡ at_dll → divisor_reached m ≡ true → (v ≡ m.setup.dll) × (n ≡ m)
  pub interrupts : k ≡ at_ier → divisor_reached m ≡ false → n ≡ m
  pub divisor_high : k ≡ at_dlm → divisor_reached m ≡ true → (v ≡ m.setup.dlm) × (n ≡ m)
  pub interrupt_status : k ≡ at_isr → ShowsFifos (is_on m.setup.fifos) v × (n ≡ m)
  pub line_control : k ≡ at_lcr → (v ≡ m.setup.lcr) × (n ≡ m)
  pub modem_control : k ≡ at_mcr → (v ≡ m.setup.mcr) × (n ≡ m)
  pub line_status : k ≡ at_lsr → Status m v × (n ≡ with_receiver m (noticed m.receiver))
  pub modem_status : k ≡ at_msr → n ≡ m
  pub scratch : k ≡ at_spr → n ≡ m

-- Writes

-- the held bytes are struck from those given, and the looped ones vanish
abbrev pub struck : Transmitter → Transmitter
struck t = record { given = take (length t.given - t.held) t.given; held = 0; turning = [] }

-- the receive queue is emptied: what it held is not lost, and stays among what arrived
abbrev pub emptied : Receiver → Receiver
emptied r = record { waiting = []; arrived = r.arrived; counts = r.counts; seen = r.seen }

-- a byte is taken where there is room for it, for the line or, in loop mode, to come round; else it vanishes
abbrev pub sent : Bool → ℕ → ℕ → Transmitter → Transmitter
sent loops room v t =
    cond (nat_lt (t.held + length t.turning) room)
    (cond loops
    (record { given = t.given; held = t.held; turning = t.turning ++ (v ∷ []) })
    (record { given = t.given ++ (v ∷ []); held = t.held + 1; turning = t.turning }))
    t

abbrev pub with_fifos : Setup → Fifos → Setup
with_fifos s f = record { lcr = s.lcr; mcr = s.mcr; dll = s.dll; dlm = s.dlm; fifos = f }

-- the FIFOs are turned on or off: both queues are emptied
abbrev pub switched : Fifos → ChipState → ChipState
switched f m = record { receiver = emptied m.receiver; transmitter = struck m.transmitter; setup = with_fifos m.setup f }

-- the FIFOs stay on: two bits empty one queue each
abbrev pub reset : ℕ → ChipState → ChipState
reset v m = record {
  receiver = cond (contains v rx_fifo_reset) (emptied m.receiver) m.receiver;
  transmitter = cond (contains v tx_fifo_reset) (struck m.transmitter) m.transmitter;
  setup = m.setup;
}

-- a write of the FIFO control
abbrev pub controlled : Fifos → ℕ → ChipState → ChipState
controlled absent v m = m
controlled off v m = cond (contains v fifo_enable) (switched on m) m
controlled on v m = cond (contains v fifo_enable) (reset v m) (switched off m)

abbrev pub with_lcr : Setup → ℕ → Setup
with_lcr s v = record { lcr = v; mcr = s.mcr; dll = s.dll; dlm = s.dlm; fifos = s.fifos }

abbrev pub with_mcr : Setup → ℕ → Setup
with_mcr s v = record { lcr = s.lcr; mcr = v; dll = s.dll; dlm = s.dlm; fifos = s.fifos }

abbrev pub with_dll : Setup → ℕ → Setup
with_dll s v = record { lcr = s.lcr; mcr = s.mcr; dll = v; dlm = s.dlm; fifos = s.fifos }

abbrev pub with_dlm : Setup → ℕ → Setup
with_dlm s v = record { lcr = s.lcr; mcr = s.mcr; dll = s.dll; dlm = v; fifos = s.fifos }

-- loop mode ends: the looped bytes vanish
abbrev pub unlooped : Transmitter → Transmitter
unlooped t = record { given = t.given; held = t.held; turning = [] }

-- the write of v to a register
pub record Writes (m : ChipState) (k v : ℕ) (n : ChipState) : Type 0 where
  pub given : k ≡ at_data → divisor_reached m ≡ false
      → n ≡ with_transmitter m (sent (looping m) (capacity m.setup.fifos) v m.transmitter)
  pub divisor_low : k ≡ at_dll → divisor_reached m ≡ true → n ≡ with_setup m (with_dll m.setup v)
  pub interrupts : k ≡ at_ier → divisor_reached m ≡ false → n ≡ m
  pub divisor_high : k ≡ at_dlm → divisor_reached m ≡ true → n ≡ with_setup m (with_dlm m.setup v)
  pub fifo_control : k ≡ at_fcr → n ≡ controlled m.setup.fifos v m
  pub line_control : k ≡ at_lcr → n ≡ with_setup m (with_lcr m.setup v)
  pub modem_control : k ≡ at_mcr → n ≡ record {
    receiver = m.receiver;
    transmitter = cond (looping m && not (contains v loop_back)) (unlooped m.transmitter) m.transmitter;
    setup = with_mcr m.setup v;
  }
  pub line_status : k ≡ at_lsr → n ≡ m
  pub modem_status : k ≡ at_msr → n ≡ m
  pub scratch : k ≡ at_spr → n ≡ m

-- Every access

-- a read of a register of a chip that held m: v came, and the chip holds n
pub record Reading (m : ChipState) (k v : ℕ) (n : ChipState) : Type 0 where
  pub mid : ChipState
  pub before : Moved m mid
  pub acts : Reads mid k v n

-- a write of v
pub record Writing (m : ChipState) (k v : ℕ) (n : ChipState) : Type 0 where
  pub mid : ChipState
  pub before : Moved m mid
  pub acts : Writes mid k v n

-- the device with this meaning keeps the rules, in every state and at every access; without FIFOs at most one character waits
pub record KeepsRules {S : Type 0} (d : Device S) (meaning : S → ChipState) : Type 0 where
  pub reading : (s : S) (k : ℕ) → k < 8 → Reading (meaning s) k (d.reader.gives s k) (meaning (d.reader.next s k))
  pub writing : (s : S) (k v : ℕ) → k < 8 → Writing (meaning s) k v (meaning (d.write s k v))
  pub single : (s : S) → is_on (meaning s).setup.fifos ≡ false → length (meaning s).receiver.waiting ≤ 1
