-- The law: no character is lost in silence. It relates the start, the present and what the calls reported.
use Rattle.std.specs.Prelude.{◌≡◌, ℕ, ◌+◌, ◌/◌, ◌%◌, ◌<◌, Bool, true, false, List, [], ◌∷◌, ◌++◌, length, map, Some, None, Option, ◌≢◌, nat_lt, slice_index_or}
use Rattle.registers.specs.declared.config.Config.{Config}
use Rattle.registers.specs.Flags.{contains, overrun_error, parity_error, framing_error, break_interrupt}
use Rattle.registers.specs.Frame.{frame}
use Rattle.registers.specs.Offsets.{at_lsr}
use Rattle.registers.specs.Refusal.{Refusal}
use Rattle.backends.specs.declared.access.Access.{Access}
use Rattle.backends.specs.declared.character.Character.{Character}
use Rattle.backends.specs.declared.character.Counts.{Counts}
use Rattle.backends.specs.Chip.{ChipState, Receiver, is_on}
use Rattle.backends.specs.Device.{Device, Runs, rd}
use Rattle.driver.specs.declared.uart.Uart16550.{Uart16550}
use Rattle.driver.specs.Kept.{Kept, kept as held}
use Rattle.driver.specs.Traces.{Ran, Initialised, DivisorFor}
use Rattle.ledger.specs.declared.call.Call.{Call}
use Rattle.ledger.specs.declared.call.Call.TheVariants as call
use Rattle.ledger.specs.declared.call.Answer.{Answer}
use Rattle.ledger.specs.declared.call.Answer.TheVariants as answer
use Rattle.ledger.specs.declared.call.Entry.{Entry}
use Rattle.ledger.specs.Did.{Did, SameCall}
use Rattle.ledger.specs.Reported.{handed, taken}

-- the first list is the second with none or some left out
pub data Within : List ℕ → List ℕ → Type 0 where
  none : Within [] []
  kept : {x : ℕ} {xs ys : List ℕ} → Within xs ys → Within (x ∷ xs) (x ∷ ys)
  left : {y : ℕ} {xs ys : List ℕ} → Within xs ys → Within xs (y ∷ ys)

-- the bytes of characters
abbrev pub bytes : List Character → List ℕ
bytes cs = map (λ c. c.byte) cs

-- Characters handed out, waiting and newly lost are those that waited at the start and those that arrived since.
-- Handed out and then waiting, they are in the order of their arrival, with none or some left out.
pub record Accounted (start now : Receiver) (out : List ℕ) : Type 0 where
  pub since : List Character
  pub came : now.arrived ≡ start.arrived ++ since
  pub lost : ℕ
  pub newly : now.counts.lost ≡ start.counts.lost + lost
  pub sum : length out + length now.waiting + lost ≡ length start.waiting + length since
  pub order : Within (out ++ bytes now.waiting) (bytes start.waiting ++ bytes since)

-- Each error is shown exactly when its count has grown.
pub record ShowsErrors (v : ℕ) (before now : Counts) : Type 0 where
  pub overrun : contains v overrun_error ≡ nat_lt before.lost now.lost
  pub parity : contains v parity_error ≡ nat_lt before.parity now.parity
  pub framing : contains v framing_error ≡ nat_lt before.framing now.framing
  pub broken : contains v break_interrupt ≡ nat_lt before.broken now.broken

-- the calls of a list, one after the other, with what the chip held at the end of each
abbrev pub Played : {S : Type 0} → Device S → (S → ChipState) → Uart16550 S → List Entry → List ChipState → Uart16550 S → Type 0
Played d meaning old [] [] new = old ≡ new
Played d meaning old [] (m ∷ ms) new = ⊥
Played d meaning old (e ∷ es) [] new = ⊥
Played {S} d meaning old (e ∷ es) (m ∷ ms) new =
    (next : Uart16550 S) × ((c : Call) × Did d old next c e.call e.answer) × (meaning next.backend ≡ m) × Played d meaning next es ms new

-- what an answer of the line status getter has to show
abbrev pub AnswerShows : Option Answer → Counts → Counts → Type 0
AnswerShows (Some (answer.Register v)) before now = ShowsErrors v before now
AnswerShows None before now = Unit {0}
AnswerShows (Some answer.Done) before now = Unit {0}
AnswerShows (Some (answer.Byte r)) before now = Unit {0}
AnswerShows (Some (answer.ReadyToReceive r)) before now = Unit {0}
AnswerShows (Some (answer.Sent r)) before now = Unit {0}
AnswerShows (Some (answer.Connected r)) before now = Unit {0}
AnswerShows (Some (answer.Present b)) before now = Unit {0}
AnswerShows (Some (answer.Count n)) before now = Unit {0}
AnswerShows (Some (answer.Exact t)) before now = Unit {0}
AnswerShows (Some (answer.Divisor a b)) before now = Unit {0}
AnswerShows (Some (answer.Dump v)) before now = Unit {0}

abbrev pub is_lsr : Entry → Bool
is_lsr e = elim e.call [
  | call.TryReceive ↦ false
  | call.Receive v ↦ false
  | call.ReceiveExact v n ↦ false
  | call.ReadyToReceive ↦ false
  | call.TrySend b ↦ false
  | call.Send v ↦ false
  | call.SendExact v n ↦ false
  | call.ReadyToSend ↦ false
  | call.CheckConnected ↦ false
  | call.CheckPresent ↦ false
  | call.EnableInterrupts b ↦ false
  | call.DisableInterrupts b ↦ false
  | call.Ier ↦ false
  | call.Isr ↦ false
  | call.Lcr ↦ false
  | call.Mcr ↦ false
  | call.Lsr ↦ true
  | call.Msr ↦ false
  | call.Spr ↦ false
  | call.DllDlm ↦ false
  | call.Dump ↦ false
]

-- Each lsr() shows an error exactly when its count has grown since the end of the list's previous lsr(), or since the start.
abbrev pub ErrorsShown : Counts → List Entry → List ChipState → Type 0
ErrorsShown before [] ms = Unit {0}
ErrorsShown before (e ∷ es) [] = Unit {0}
ErrorsShown before (e ∷ es) (m ∷ ms) = elim (is_lsr e) [
  | true ↦ AnswerShows e.answer before m.receiver.counts × ErrorsShown m.receiver.counts es ms
  | false ↦ ErrorsShown before es ms
]

-- no access of the list reads the line status
abbrev pub NoStatus : List Access → Type 0
NoStatus [] = Unit {0}
NoStatus (a ∷ xs) = (a ≢ rd at_lsr a.value) × NoStatus xs

-- the start: right after the last read of the line status among the accesses xs, which led from s to t
pub record Start {S : Type 0} (d : Device S) (xs : List Access) (s t : S) : Type 0 where
  pub before : List Access
  pub status : ℕ
  pub at : S
  pub rest : List Access
  pub parts : xs ≡ before ++ (rd at_lsr status ∷ rest)
  pub reached : Runs d (before ++ (rd at_lsr status ∷ [])) s at
  pub left : Runs d rest at t
  pub last : NoStatus rest

-- what an accepted init says of the chip: the divisor is latched, the frame set, the modem lines raised, the FIFO state known
pub record SetUp (c : Config) (m : ChipState) (k : Kept) : Type 0 where
  pub divisor : ℕ
  pub right : DivisorFor c divisor
  pub low : m.setup.dll ≡ divisor % 256
  pub high : m.setup.dlm ≡ divisor / 256
  pub framed : m.setup.lcr ≡ frame c.data_bits c.extra_stop_bits c.parity
  pub raised : m.setup.mcr ≡ 0x0B
  pub fifos : k.fifo ≡ is_on m.setup.fifos

-- From the start, through the rest of an init that answered Ok, and the list: the whole law.
pub record Law {S : Type 0} (d : Device S) (meaning : S → ChipState) (c : Config) (budget fruitless : ℕ) (old new : Uart16550 S) (list : List Entry) : Type 0 where
  -- init left the driver ready
  pub ready : Uart16550 S
  pub accesses : List Access
  pub init : Initialised c budget (held old) None fruitless (held ready) accesses
  pub ran : Runs d accesses old.backend ready.backend
  pub start : Start d accesses old.backend ready.backend
  pub set_up : SetUp c (meaning ready.backend) (held ready)
  -- the calls led from there to the present
  pub states : List ChipState
  pub played : Played d meaning ready list states new
  -- every character is accounted for, in order
  pub account : Accounted (meaning start.at).receiver (meaning new.backend).receiver (handed list)
  -- the line was given exactly what sends reported taken
  pub given : (meaning new.backend).transmitter.given ≡ (meaning start.at).transmitter.given ++ taken list
  -- and lsr() told of every error
  pub errors : ErrorsShown (meaning start.at).receiver.counts list states

-- the same calls, in the same order
pub record SameCalls (before after : List Entry) : Type 0 where
  pub many : length after ≡ length before
  pub each : (i : ℕ) (e : Entry) → i < length before → SameCall (slice_index_or before i e).call (slice_index_or after i e).call

-- an init and, where it was accepted, a list of calls: what it left of the list, and its answer
pub data Outcome {S : Type 0} (d : Device S) (meaning : S → ChipState) (c : Config) (budget : ℕ) (old new : Uart16550 S) (before after : List Entry) :
    Option Refusal → ℕ → Type 0 where
  -- init was refused: the calls were not made
  refused : (x : Refusal) (n : ℕ) → Ran d (Initialised c budget (held old) (Some x) n (held new)) old.backend new.backend → after ≡ before → Outcome d meaning c budget old new before after (Some x) n
  -- it was accepted: the law holds
  played : (n : ℕ) → SameCalls before after → Law d meaning c budget n old new after → Outcome d meaning c budget old new before after None n
