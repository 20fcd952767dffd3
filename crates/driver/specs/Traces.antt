-- What the driver's calls do on the bus: the lists of accesses that each may make.
use Rattle.std.specs.Prelude.{◌≡◌, ℕ, ◌+◌, ◌/◌, ◌%◌, ◌≤◌, Bool, true, false, List, [], ◌∷◌, ◌++◌, length, map, fold, All, Some, None, Option, ◌≢◌, bit_and, bit_or}
use Rattle.registers.specs.declared.config.Config.{Config}
use Rattle.registers.specs.declared.error.Wait.TheVariants.{Transmitter}
use Rattle.registers.specs.declared.fcr.FifoTriggerLevel.{FifoTriggerLevel}
use Rattle.registers.specs.Config.{rate}
use Rattle.registers.specs.Divisor.{DivisorOf, NoDivisor}
use Rattle.registers.specs.Fifo.{fifo_control}
use Rattle.registers.specs.Flags.{contains, data_ready, line_errors, line_changes, transmitter_empty, fifos_on, divisor_access}
use Rattle.registers.specs.Offsets.{at_data, at_ier, at_isr, at_fcr, at_lcr, at_mcr, at_lsr, at_msr, at_spr, at_dll, at_dlm}
use Rattle.registers.specs.Frame.{frame}
use Rattle.registers.specs.Refusal.{Refusal, refusal, during}
use Rattle.backends.specs.declared.access.Access.{Access}
use Rattle.backends.specs.Device.{Device, Runs, rd, wr}
use Rattle.driver.specs.declared.uart.Uart16550.{Uart16550}
use Rattle.driver.specs.Kept.{Kept, kept, with_config, with_fifo, with_saved}

-- some list of accesses with the property P led from the state s to the state t
abbrev pub Ran : {S : Type 0} → Device S → (List Access → Type 0) → S → S → Type 0
Ran d P s t = (xs : List Access) × P xs × Runs d xs s t

-- two patterns are written to the scratch register, the second only if the first came back: whether both did
pub data Patterns : Bool → List Access → Type 0 where
  both_back : Patterns true (wr at_spr 0x42 ∷ rd at_spr 0x42 ∷ wr at_spr 0x73 ∷ rd at_spr 0x73 ∷ [])
  first_lost : (b : ℕ) → (b ≢ 0x42) → Patterns false (wr at_spr 0x42 ∷ rd at_spr b ∷ [])
  second_lost : (b : ℕ) → (b ≢ 0x73) → Patterns false (wr at_spr 0x42 ∷ rd at_spr 0x42 ∷ wr at_spr 0x73 ∷ rd at_spr b ∷ [])

-- the presence check: the byte that stood in the scratch register is written back
pub data Probe (r : Bool) : List Access → Type 0 where
  probe : (old : ℕ) (xs : List Access) → Patterns r xs → Probe r (rd at_spr old ∷ xs ++ (wr at_spr old ∷ []))

-- the line is set up: the divisor's two bytes, then the frame
abbrev pub line_set_up : Config → ℕ → List Access
line_set_up c d = wr at_lcr 0 ∷ wr at_ier 0 ∷ wr at_lcr divisor_access ∷ wr at_dll (d % 256) ∷ wr at_dlm (d / 256) ∷ wr at_lcr 0
    ∷ wr at_lcr (frame c.data_bits c.extra_stop_bits c.parity) ∷ []

-- the FIFOs are set up, and whether they are used: a device with a trigger level is asked
pub data FifoSetUp : Option FifoTriggerLevel → Bool → List Access → Type 0 where
  unwanted : FifoSetUp None false (wr at_fcr (fifo_control None) ∷ [])
  asked : (l : FifoTriggerLevel) (isr : ℕ) → FifoSetUp (Some l) (contains isr fifos_on) (wr at_fcr (fifo_control (Some l)) ∷ rd at_isr isr ∷ [])

-- stale characters are read, at most n, until the line status shows none
pub data Discarded : ℕ → List Access → Type 0 where
  all_read : Discarded 0 []
  none_left : (n v : ℕ) → contains v data_ready ≡ false → Discarded (n + 1) (rd at_lsr v ∷ [])
  one_read : (n v b : ℕ) (xs : List Access) → contains v data_ready ≡ true → Discarded n xs → Discarded (n + 1) (rd at_lsr v ∷ rd at_data b ∷ xs)

-- reads of the line status, in this order
abbrev pub polls : List ℕ → List Access
polls vs = map (rd at_lsr) vs

-- a saved byte after reads whose bits under the mask are kept
abbrev pub joined : ℕ → ℕ → List ℕ → ℕ
joined mask s vs = fold (λ saved v. bit_or saved (bit_and v mask)) s vs

-- the driver after it kept the error bits of these line status bytes and the change bits of these modem status bytes
abbrev pub noting : Kept → List ℕ → List ℕ → Kept
noting k ls ms = with_saved k (joined line_errors k.lsr ls) (joined line_changes k.msr ms)

-- none of the bytes shows the mask
abbrev pub NoneShows : ℕ → List ℕ → Type 0
NoneShows m vs = All (λ v. contains v m ≡ false) vs

-- a wait for the transmitter: polls that did not show it empty, which the count of fruitless polls grew by
pub record StayedBusy {S : Type 0} (d : Device S) (old new : Uart16550 S) (spent total : ℕ) : Type 0 where
  pub polled : List ℕ
  pub busy : NoneShows transmitter_empty polled
  pub count : total ≡ spent + length polled
  pub ran : Runs d (polls polled) old.backend new.backend
  pub keeps : kept new ≡ noting (kept old) polled []

-- and then one that did
pub record SeenEmpty {S : Type 0} (d : Device S) (old new : Uart16550 S) (spent total : ℕ) : Type 0 where
  pub polled : List ℕ
  pub last : ℕ
  pub busy : NoneShows transmitter_empty polled
  pub empty : contains last transmitter_empty ≡ true
  pub count : total ≡ spent + length polled
  pub ran : Runs d (polls polled ++ (rd at_lsr last ∷ [])) old.backend new.backend
  pub keeps : kept new ≡ noting (kept old) (polled ++ (last ∷ [])) []

-- status registers are read to clear them
pub data Cleared : List Access → Type 0 where
  cleared : (lsr isr msr : ℕ) → Cleared (rd at_lsr lsr ∷ rd at_isr isr ∷ rd at_msr msr ∷ [])

-- between the presence check and the wait for the transmitter: line, FIFOs, stale characters, and the modem lines raised
pub data Opened (c : Config) (d : ℕ) (on : Bool) : List Access → Type 0 where
  opened : (xs ys : List Access) → FifoSetUp c.fifo_trigger_level on xs → Discarded 17 ys
      → Opened c d on (line_set_up c d ++ xs ++ ys ++ (wr at_mcr 0x0B ∷ []))

-- d is the divisor for the configuration c
abbrev pub DivisorFor : Config → ℕ → Type 0
DivisorFor c d = DivisorOf c.frequency (rate c.baud_rate) c.prescaler_division_factor d

-- init with the configuration c and a budget of n, on a driver that kept k:
-- its refusal, if any; its fruitless polls; what the driver keeps then; and the accesses
pub data Initialised (c : Config) (n : ℕ) (k : Kept) : Option Refusal → ℕ → Kept → List Access → Type 0 where
  -- there is no divisor: nothing is touched, nothing changes
  no_divisor : (x : Refusal) → NoDivisor c.frequency (rate c.baud_rate) c.prescaler_division_factor x
      → Initialised c n k (Some x) 0 k []
  -- the device is not there: only the configuration is new
  absent : (d : ℕ) → DivisorFor c d → (xs : List Access) → Probe false xs
      → Initialised c n k (Some (refusal 8 [])) 0 (with_config k c) xs
  -- n + 1 polls did not show the transmitter empty
  given_up : (d : ℕ) → DivisorFor c d → (on : Bool) (xs ys : List Access) → Probe true xs → Opened c d on ys
      → (vs : List ℕ) → NoneShows transmitter_empty vs → length vs ≡ n + 1
      → Initialised c n k (Some (refusal 9 (during Transmitter ∷ []))) (length vs)
      (noting (with_fifo (with_config k c) on) vs []) (xs ++ ys ++ polls vs)
  -- the transmitter was empty in time: the status is cleared, and the interrupts are set
  done : (d : ℕ) → DivisorFor c d → (on : Bool) (xs ys zs : List Access) → Probe true xs → Opened c d on ys
      → (vs : List ℕ) (v : ℕ) → NoneShows transmitter_empty vs → contains v transmitter_empty ≡ true → length vs ≤ n → Cleared zs
      → Initialised c n k None (length vs) (with_saved (with_fifo (with_config k c) on) 0 0)
      (xs ++ ys ++ (polls vs ++ (rd at_lsr v ∷ [])) ++ zs ++ (wr at_ier c.interrupts ∷ []))
