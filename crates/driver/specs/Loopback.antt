-- The loopback test: what it does on the bus, and how it ends.
use Rattle.std.specs.Prelude.{◌≡◌, ℕ, ◌+◌, ◌-◌, ◌^◌, ◌<◌, ◌≤◌, Bool, true, false, List, [], ◌∷◌, ◌++◌, length, map, flat_map, sum_by, Some, None, codes, Option, ◌≢◌, bit_and, bit_or, slice_index}
use Rattle.registers.specs.declared.error.Wait.TheVariants.{Transmitter, Drain, TestByte, TestMessageSent, TestMessageReceived}
use Rattle.registers.specs.declared.lcr.WordLength.{WordLength}
use Rattle.registers.specs.Flags.{contains, line_errors, line_changes, transmitter_empty, loop_back}
use Rattle.registers.specs.Frame.{word_bits}
use Rattle.registers.specs.Modem.{LineChanges}
use Rattle.registers.specs.Offsets.{at_ier, at_mcr, at_lsr, at_msr}
use Rattle.registers.specs.Refusal.{Refusal, refusal, amount, during}
use Rattle.backends.specs.declared.access.Access.{Access}
use Rattle.backends.specs.Device.{Device, Runs, rd, wr}
use Rattle.driver.specs.declared.uart.Uart16550.{Uart16550}
use Rattle.driver.specs.Kept.{Kept, kept, with_fifo, with_saved}
use Rattle.driver.specs.Traces.{joined, noting, polls, NoneShows, FifoSetUp}
use Rattle.driver.specs.Receives.{Sound, Try, missed, tries, statuses, got, misses, FillsExactly, WaitsFor}
use Rattle.driver.specs.Sends.{Attempt, attempts, line_statuses, modem_statuses, refusals, Attempted, Attempts, SendsExactly}

-- the byte and the message that have to come back
abbrev pub test_byte : ℕ
test_byte = 0x42

abbrev pub test_message : List ℕ
test_message = codes "hello world!1337"

-- the data bits of a character of this length
abbrev pub data_mask : WordLength → ℕ
data_mask w = 2 ^ word_bits w - 1

-- bytes of which only the bits under the mask count
abbrev pub masked : ℕ → List ℕ → List ℕ
masked m vs = map (λ v. bit_and v m) vs

-- what the test does in loop mode, part by part: characters thrown away, a byte offered once, bytes sent, bytes read back
pub data Part : Type 0 where
  drained : List Try → Part
  offered : Attempt → Part
  sent : List Attempt → Part
  heard : List Try → Part

-- the accesses of a part, and of parts one after the other
abbrev pub part_accesses : Part → List Access
part_accesses (drained ts) = tries ts
part_accesses (offered a) = attempts (a ∷ [])
part_accesses (sent tried) = attempts tried
part_accesses (heard ts) = tries ts

abbrev pub accesses : List Part → List Access
accesses ps = flat_map part_accesses ps

-- the line status bytes that they read
abbrev pub part_lines : Part → List ℕ
part_lines (drained ts) = statuses ts
part_lines (offered a) = line_statuses (a ∷ [])
part_lines (sent tried) = line_statuses tried
part_lines (heard ts) = statuses ts

abbrev pub lines_of : List Part → List ℕ
lines_of ps = flat_map part_lines ps

-- the modem status bytes: only sending reads that register
abbrev pub part_modems : Part → List ℕ
part_modems (drained ts) = []
part_modems (offered a) = modem_statuses (a ∷ [])
part_modems (sent tried) = modem_statuses tried
part_modems (heard ts) = []

abbrev pub modems_of : List Part → List ℕ
modems_of ps = flat_map part_modems ps

-- their fruitless polls: each character thrown away is one, and a byte that is offered once waits for nothing
abbrev pub part_wasted : Part → ℕ
part_wasted (drained ts) = length (got ts)
part_wasted (offered a) = 0
part_wasted (sent tried) = refusals tried
part_wasted (heard ts) = misses ts

abbrev pub wasted : List Part → ℕ
wasted ps = sum_by part_wasted ps

-- the bytes that came back
abbrev pub part_back : Part → List ℕ
part_back (drained ts) = []
part_back (offered a) = []
part_back (sent tried) = []
part_back (heard ts) = got ts

abbrev pub back : List Part → List ℕ
back ps = flat_map part_back ps

-- what sending goes by: the saved bits play no part
abbrev pub settings : Kept → Kept
settings k = with_saved k 0 0

-- The grammar: n is how many fruitless polls may still be passed over

-- characters are thrown away until none waits; the one after n ends the call
pub data Drains (n : ℕ) : Option Refusal → List Part → Type 0 where
  emptied : (ts : List Try) (v : ℕ) → Sound (ts ++ (missed v ∷ [])) → misses ts ≡ 0 → length (got ts) ≤ n → Drains n None (drained (ts ++ (missed v ∷ [])) ∷ [])
  flooded : (ts : List Try) → Sound ts → misses ts ≡ 0 → length (got ts) ≡ n + 1 → Drains n (Some (refusal 9 (during Drain ∷ []))) (drained ts ∷ [])

-- the test byte is offered once, and the character that then comes is compared
pub data ByteTested (k : Kept) (n : ℕ) : Option Refusal → List Part → Type 0 where
  not_taken : (a : Attempt) → Attempted k (test_byte ∷ []) a → a.bytes ≡ []
      → ByteTested k n (Some (refusal 15 (amount 11 ∷ []))) (offered a ∷ [])
  never_back : (a : Attempt) → Attempted k (test_byte ∷ []) a → a.bytes ≡ test_byte ∷ []
      → (x : Refusal) (ts : List Try) → Sound ts → WaitsFor n TestByte (Some x) ts []
      → ByteTested k n (Some x) (offered a ∷ heard ts ∷ [])
  another : (a : Attempt) → Attempted k (test_byte ∷ []) a → a.bytes ≡ test_byte ∷ []
      → (ts : List Try) (b : ℕ) → Sound ts → WaitsFor n TestByte None ts (b ∷ [])
      → (bit_and b (data_mask k.config.data_bits) ≢ bit_and test_byte (data_mask k.config.data_bits))
      → ByteTested k n (Some (refusal 16 (amount b ∷ []))) (offered a ∷ heard ts ∷ [])
  the_same : (a : Attempt) → Attempted k (test_byte ∷ []) a → a.bytes ≡ test_byte ∷ []
      → (ts : List Try) (b : ℕ) → Sound ts → WaitsFor n TestByte None ts (b ∷ [])
      → bit_and b (data_mask k.config.data_bits) ≡ bit_and test_byte (data_mask k.config.data_bits)
      → ByteTested k n None (offered a ∷ heard ts ∷ [])

-- bytes are sent, and then as many are read
pub data Echoed (k : Kept) (n : ℕ) (bytes : List ℕ) : Option Refusal → List Part → Type 0 where
  not_sent : (x : Refusal) (tried : List Attempt) → Attempts k bytes tried → SendsExactly k bytes n TestMessageSent (Some x) tried
      → Echoed k n bytes (Some x) (sent tried ∷ [])
  all_sent : (x : Option Refusal) (tried : List Attempt) (ts : List Try) → Attempts k bytes tried → SendsExactly k bytes n TestMessageSent None tried
      → Sound ts → FillsExactly (length bytes) (n - refusals tried) TestMessageReceived x ts → Echoed k n bytes x (sent tried ∷ heard ts ∷ [])

-- the first i bytes of the message, one after the other, each sent and read back before the next; the last may have been cut
pub data Singly (k : Kept) (n : ℕ) : ℕ → Option Refusal → List Part → Type 0 where
  start : Singly k n 0 None []
  next : (i : ℕ) (x : Option Refusal) (ps qs : List Part) → Singly k n i None ps → i < length test_message
      → Echoed k (n - wasted ps) (slice_index test_message i ∷ []) x qs → Singly k n (i + 1) x (ps ++ qs)

-- the message: with FIFOs at once, without them byte by byte
pub data MessageEchoed (k : Kept) (n : ℕ) : Option Refusal → List Part → Type 0 where
  at_once : (x : Option Refusal) (ps : List Part) → k.fifo ≡ true → Echoed k n test_message x ps → MessageEchoed k n x ps
  singly : (ps : List Part) → k.fifo ≡ false → Singly k n (length test_message) None ps → MessageEchoed k n None ps
  singly_cut : (i : ℕ) (x : Refusal) (ps : List Part) → k.fifo ≡ false → Singly k n i (Some x) ps → MessageEchoed k n (Some x) ps

-- the message is compared; the caller's place, which holds `place`, gets what came back where that is another one
pub data MessageTested (k : Kept) (n : ℕ) (place : List ℕ) : Option Refusal → List ℕ → List Part → Type 0 where
  cut_off : (x : Refusal) (ps : List Part) → MessageEchoed k n (Some x) ps → MessageTested k n place (Some x) place ps
  message_back : (ps : List Part) → MessageEchoed k n None ps
      → masked (data_mask k.config.data_bits) (back ps) ≡ masked (data_mask k.config.data_bits) test_message
      → MessageTested k n place None place ps
  other_message : (ps : List Part) → MessageEchoed k n None ps
      → (masked (data_mask k.config.data_bits) (back ps) ≢ masked (data_mask k.config.data_bits) test_message)
      → MessageTested k n place (Some (refusal 17 [])) (back ps) ps

-- the three steps, up to the first that is refused
pub data Looped (k : Kept) (n : ℕ) (place : List ℕ) : Option Refusal → List ℕ → List Part → Type 0 where
  in_drain : (x : Refusal) (ps : List Part) → Drains n (Some x) ps → Looped k n place (Some x) place ps
  in_byte : (x : Refusal) (ps qs : List Part) → Drains n None ps → ByteTested k (n - wasted ps) (Some x) qs
      → Looped k n place (Some x) place (ps ++ qs)
  in_message : (x : Option Refusal) (after : List ℕ) (ps qs rs : List Part) → Drains n None ps → ByteTested k (n - wasted ps) None qs
      → MessageTested k (n - wasted (ps ++ qs)) place x after rs → Looped k n place x after ((ps ++ qs) ++ rs)

-- loop mode is left without interrupts being let through, the modem status is read, and what stood in MCR and IER is written back
abbrev pub restores : ℕ → ℕ → ℕ → List Access
restores mcr ier modem = wr at_mcr (bit_and mcr (255 - 0x08)) ∷ rd at_msr modem ∷ wr at_mcr mcr ∷ wr at_ier ier ∷ []

-- the test with a budget of n on a driver that kept k:
-- its refusal, if any; its fruitless polls; what the place holds then; what the driver keeps then; and the accesses
pub data LoopTested (n : ℕ) (k : Kept) (place : List ℕ) : Option Refusal → ℕ → List ℕ → Kept → List Access → Type 0 where
  -- n + 1 polls did not show the transmitter empty: nothing was written
  stayed_busy : (mcr ier : ℕ) (vs : List ℕ) → NoneShows transmitter_empty vs → length vs ≡ n + 1
      → LoopTested n k place (Some (refusal 9 (during Transmitter ∷ []))) (length vs) place (noting k vs [])
      (rd at_mcr mcr ∷ rd at_ier ier ∷ polls vs)
  -- else loop mode is entered and left: of the line errors those before it stay saved, and of the modem lines' changes
  -- at its end those that the lines themselves show are saved
  looped : (mcr ier : ℕ) (vs : List ℕ) (v : ℕ) → NoneShows transmitter_empty vs → contains v transmitter_empty ≡ true → length vs ≤ n
      → (modem : ℕ) (on : Bool) (xs : List Access) → FifoSetUp k.config.fifo_trigger_level on xs
      → (x : Option Refusal) (after : List ℕ) (ps : List Part) → Looped (settings (with_fifo k on)) (n - length vs) place x after ps
      → (modem' changes : ℕ) → LineChanges modem modem' changes
      → LoopTested n k place x (length vs + wasted ps) after
      (with_saved (with_fifo k on) (joined line_errors k.lsr (vs ++ (v ∷ []))) (bit_or (joined line_changes k.msr (modem ∷ modems_of ps)) changes))
      (rd at_mcr mcr ∷ rd at_ier ier ∷ (polls vs ++ (rd at_lsr v ∷ [])) ++ (rd at_msr modem ∷ wr at_ier 0 ∷ wr at_mcr loop_back ∷ [])
      ++ (xs ++ accesses ps) ++ restores mcr ier modem')

-- The steps as the driver's methods: from the driver as it was, `old`, to the driver as it is then, `new`

-- parts with the property P were done, which the count of fruitless polls grew by
pub record Done {S : Type 0} (d : Device S) (old new : Uart16550 S) (P : List Part → Type 0) (spent total : ℕ) : Type 0 where
  pub parts : List Part
  pub holds : P parts
  pub ran : Runs d (accesses parts) old.backend new.backend
  pub keeps : kept new ≡ noting (kept old) (lines_of parts) (modems_of parts)
  pub counted : total ≡ spent + wasted parts

-- a step that was not refused left the count within the budget
abbrev pub Within : Option Refusal → ℕ → ℕ → Type 0
Within None total n = total ≤ n
Within (Some x) total n = Unit {0}

-- the FIFOs are set up, and then the three steps
pub record InLoop {S : Type 0} (d : Device S) (old new : Uart16550 S) (n : ℕ) (place after : List ℕ) (x : Option Refusal) (spent total : ℕ) : Type 0 where
  pub on : Bool
  pub setting : List Access
  pub parts : List Part
  pub set_up : FifoSetUp old.config.fifo_trigger_level on setting
  pub holds : Looped (settings (with_fifo (kept old) on)) n place x after parts
  pub ran : Runs d (setting ++ accesses parts) old.backend new.backend
  pub keeps : kept new ≡ noting (with_fifo (kept old) on) (lines_of parts) (modems_of parts)
  pub counted : total ≡ spent + wasted parts

-- loop mode is left; of the lines' changes since the modem status `before` only those that the lines show are saved
pub record Left {S : Type 0} (d : Device S) (old new : Uart16550 S) (mcr ier lsr before : ℕ) : Type 0 where
  pub modem : ℕ
  pub changes : ℕ
  pub shown : LineChanges before modem changes
  pub ran : Runs d (restores mcr ier modem) old.backend new.backend
  pub keeps : kept new ≡ with_saved (kept old) lsr (bit_or old.msr_saved changes)
