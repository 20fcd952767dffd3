-- What calls reported: the bytes handed out and the bytes taken, by a call, its buffer at the end, and its answer.
use Rattle.std.specs.Prelude.{ℕ, List, [], ◌∷◌, take, flat_map, Some, None, Ok, Err, vec_items, Option}
use Rattle.ledger.specs.declared.call.Call.{Call}
use Rattle.ledger.specs.declared.call.Call.TheVariants as call
use Rattle.ledger.specs.declared.call.Answer.{Answer}
use Rattle.ledger.specs.declared.call.Answer.TheVariants as answer
use Rattle.ledger.specs.declared.call.Entry.{Entry}

-- how many bytes an answer reports as moved
abbrev pub moved : Option Answer → ℕ
moved None = 0
moved (Some answer.Done) = 0
moved (Some (answer.Byte r)) = 0
moved (Some (answer.ReadyToReceive r)) = 0
moved (Some (answer.Sent (Ok u))) = 1
moved (Some (answer.Sent (Err e))) = 0
moved (Some (answer.Connected r)) = 0
moved (Some (answer.Present b)) = 0
moved (Some (answer.Count n)) = n
moved (Some (answer.Exact t)) = t.moved
moved (Some (answer.Register v)) = 0
moved (Some (answer.Divisor a b)) = 0
moved (Some (answer.Dump v)) = 0

-- the byte in the answer of a try to receive
abbrev pub received : Option Answer → List ℕ
received None = []
received (Some answer.Done) = []
received (Some (answer.Byte (Ok b))) = b ∷ []
received (Some (answer.Byte (Err e))) = []
received (Some (answer.ReadyToReceive r)) = []
received (Some (answer.Sent r)) = []
received (Some (answer.Connected r)) = []
received (Some (answer.Present b)) = []
received (Some (answer.Count n)) = []
received (Some (answer.Exact t)) = []
received (Some (answer.Register v)) = []
received (Some (answer.Divisor a b)) = []
received (Some (answer.Dump v)) = []

-- the byte of a successful try, and the first places of a receive's buffer, as many as it reports
abbrev pub handed_by : Call → Option Answer → List ℕ
handed_by call.TryReceive a = received a
handed_by (call.Receive v) a = take (moved a) (vec_items v)
handed_by (call.ReceiveExact v n) a = take (moved a) (vec_items v)
handed_by call.ReadyToReceive a = []
handed_by (call.TrySend b) a = []
handed_by (call.Send v) a = []
handed_by (call.SendExact v n) a = []
handed_by call.ReadyToSend a = []
handed_by call.CheckConnected a = []
handed_by call.CheckPresent a = []
handed_by (call.EnableInterrupts b) a = []
handed_by (call.DisableInterrupts b) a = []
handed_by call.Ier a = []
handed_by call.Isr a = []
handed_by call.Lcr a = []
handed_by call.Mcr a = []
handed_by call.Lsr a = []
handed_by call.Msr a = []
handed_by call.Spr a = []
handed_by call.DllDlm a = []
handed_by call.Dump a = []

-- the byte of a successful try, and the first places of a send's buffer, as many as it reports
abbrev pub taken_by : Call → Option Answer → List ℕ
taken_by call.TryReceive a = []
taken_by (call.Receive v) a = []
taken_by (call.ReceiveExact v n) a = []
taken_by call.ReadyToReceive a = []
taken_by (call.TrySend b) a = take (moved a) (b ∷ [])
taken_by (call.Send v) a = take (moved a) (vec_items v)
taken_by (call.SendExact v n) a = take (moved a) (vec_items v)
taken_by call.ReadyToSend a = []
taken_by call.CheckConnected a = []
taken_by call.CheckPresent a = []
taken_by (call.EnableInterrupts b) a = []
taken_by (call.DisableInterrupts b) a = []
taken_by call.Ier a = []
taken_by call.Isr a = []
taken_by call.Lcr a = []
taken_by call.Mcr a = []
taken_by call.Lsr a = []
taken_by call.Msr a = []
taken_by call.Spr a = []
taken_by call.DllDlm a = []
taken_by call.Dump a = []

-- by a whole list, in the order of its calls
abbrev pub handed : List Entry → List ℕ
handed es = flat_map (λ e. handed_by e.call e.answer) es

abbrev pub taken : List Entry → List ℕ
taken es = flat_map (λ e. taken_by e.call e.answer) es
