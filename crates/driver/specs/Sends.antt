-- Sending: what it does on the bus, and which bytes it takes.
use Rattle.std.specs.Prelude.{◌≡◌, ℕ, ◌<◌, ◌≤◌, min, Bool, true, false, cond, List, [], ◌∷◌, ◌++◌, length, map, flat_map, count_by, take, drop, Some, None, Option, ◌==◌}
use Rattle.registers.specs.declared.error.Wait.{Wait}
use Rattle.registers.specs.Flags.{contains, thr_empty, loop_back, clear_to_send}
use Rattle.registers.specs.Offsets.{at_data, at_lsr, at_mcr, at_msr}
use Rattle.registers.specs.Refusal.{Refusal, refusal, during}
use Rattle.backends.specs.declared.access.Access.{Access}
use Rattle.backends.specs.Device.{Device, Runs, rd, wr}
use Rattle.driver.specs.declared.uart.Uart16550.{Uart16550}
use Rattle.driver.specs.Kept.{Kept, kept}
use Rattle.driver.specs.Traces.{noting}

-- what was read to learn whether something may be sent: the line status, then perhaps the modem control, then perhaps the modem status
pub data Question : Type 0 where
  status : ℕ → Question
  control : ℕ → ℕ → Question
  lines : ℕ → ℕ → ℕ → Question

-- the reads of a question
abbrev pub asks : Question → List Access
asks (status v) = rd at_lsr v ∷ []
asks (control v m) = rd at_lsr v ∷ rd at_mcr m ∷ []
asks (lines v m s) = rd at_lsr v ∷ rd at_mcr m ∷ rd at_msr s ∷ []

-- its line status byte, and its modem status bytes
abbrev pub line_status : Question → ℕ
line_status (status v) = v
line_status (control v m) = v
line_status (lines v m s) = v

abbrev pub modem_status : Question → List ℕ
modem_status (status v) = []
modem_status (control v m) = []
modem_status (lines v m s) = s ∷ []

-- whether something may be sent, where the remote's line is checked or not; in loop mode that line means nothing
pub data Answers (checked : Bool) : Question → Option Refusal → Type 0 where
  no_room : (v : ℕ) → contains v thr_empty ≡ false → Answers checked (status v) (Some (refusal 11 []))
  unchecked : (v : ℕ) → checked ≡ false → contains v thr_empty ≡ true → Answers checked (status v) None
  looped : (v m : ℕ) → checked ≡ true → contains v thr_empty ≡ true → contains m loop_back ≡ true → Answers checked (control v m) None
  clear : (v m s : ℕ) → checked ≡ true → contains v thr_empty ≡ true → contains m loop_back ≡ false → contains s clear_to_send ≡ true
      → Answers checked (lines v m s) None
  not_clear : (v m s : ℕ) → checked ≡ true → contains v thr_empty ≡ true → contains m loop_back ≡ false → contains s clear_to_send ≡ false
      → Answers checked (lines v m s) (Some (refusal 12 []))

-- one attempt to send: its question, and the bytes that were then written
pub record Attempt : Type 0 where
  pub question : Question
  pub bytes : List ℕ

-- bytes written to the data register
abbrev pub writes_of : List ℕ → List Access
writes_of bytes = map (wr at_data) bytes

-- the accesses of these attempts: each asks, and then writes its bytes
abbrev pub attempts : List Attempt → List Access
attempts tried = flat_map (λ a. asks a.question ++ writes_of a.bytes) tried

-- the bytes that they took
abbrev pub taken : List Attempt → List ℕ
taken tried = flat_map (λ a. a.bytes) tried

-- the status bytes that they read
abbrev pub line_statuses : List Attempt → List ℕ
line_statuses tried = map (λ a. line_status a.question) tried

abbrev pub modem_statuses : List Attempt → List ℕ
modem_statuses tried = flat_map (λ a. modem_status a.question) tried

-- how many took nothing
abbrev pub refusals : List Attempt → ℕ
refusals tried = count_by (λ a. length a.bytes == 0) tried

-- how many bytes one attempt may take
abbrev pub burst : Kept → ℕ
burst k = cond k.fifo 16 1

-- an attempt on a buffer that holds something: its first bytes, or none where the answer was no
pub data Attempted (k : Kept) (buffer : List ℕ) : Attempt → Type 0 where
  wrote : (q : Question) → Answers k.config.check_cts_before_sending q None
      → Attempted k buffer (record { question = q; bytes = take (burst k) buffer })
  refused : (q : Question) (x : Refusal) → Answers k.config.check_cts_before_sending q (Some x)
      → Attempted k buffer (record { question = q; bytes = [] })

-- attempts one after the other, each on what is left of the buffer; none where nothing is left
abbrev pub Attempts : Kept → List ℕ → List Attempt → Type 0
Attempts k buffer [] = Unit {0}
Attempts k buffer (a ∷ rest) = (0 < length buffer) × Attempted k buffer a × Attempts k (drop (length a.bytes) buffer) rest

-- The calls: from the driver as it was, `old`, to the driver as it is then, `new`

-- these attempts were made
pub record Made {S : Type 0} (d : Device S) (old new : Uart16550 S) (tried : List Attempt) : Type 0 where
  pub ran : Runs d (attempts tried) old.backend new.backend
  pub keeps : kept new ≡ noting (kept old) (line_statuses tried) (modem_statuses tried)

-- the question alone, and its answer
pub record AskedToSend {S : Type 0} (d : Device S) (old new : Uart16550 S) (x : Option Refusal) : Type 0 where
  pub question : Question
  pub answer : Answers old.config.check_cts_before_sending question x
  pub ran : Runs d (asks question) old.backend new.backend
  pub keeps : kept new ≡ noting (kept old) (line_status question ∷ []) (modem_status question)

-- at most one attempt; the answer is how many bytes it took
pub record Sent {S : Type 0} (d : Device S) (old new : Uart16550 S) (buffer : List ℕ) (count : ℕ) : Type 0 where
  pub tried : List Attempt
  pub made : Made d old new tried
  pub sound : Attempts (kept old) buffer tried
  pub one : length tried ≡ min 1 (length buffer)
  pub answer : count ≡ length (taken tried)

-- a buffer is sent to its end, unless n + 1 attempts take nothing: then the call ends, in this wait
pub data SendsExactly (k : Kept) (buffer : List ℕ) (n : ℕ) (w : Wait) : Option Refusal → List Attempt → Type 0 where
  all : (tried : List Attempt) → refusals tried ≤ n → length (taken tried) ≡ length buffer → SendsExactly k buffer n w None tried
  cut : (tried : List Attempt) (q : Question) → refusals tried ≡ n
      → SendsExactly k buffer n w (Some (refusal 9 (during w ∷ []))) (tried ++ (record { question = q; bytes = [] } ∷ []))

-- the answer carries the fruitless attempts and the bytes that were taken
pub record SentExactly {S : Type 0} (d : Device S) (old new : Uart16550 S) (buffer : List ℕ) (n : ℕ) (w : Wait)
    (x : Option Refusal) (fruitless count : ℕ) : Type 0 where
  pub tried : List Attempt
  pub made : Made d old new tried
  pub sound : Attempts (kept old) buffer tried
  pub sends : SendsExactly (kept old) buffer n w x tried
  pub counted : fruitless ≡ refusals tried
  pub answer : count ≡ length (taken tried)
