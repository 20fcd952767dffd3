-- What each call did, by the driver's own promises.
use Rattle.std.specs.Prelude.{◌≡◌, ℕ, ◌-◌, Bool, cond, [], ◌∷◌, length, is_ok, Some, None, vec_items, Option, Result, bit_and, bit_or}
use Rattle.std.specs.Global.{Vec}
use Rattle.std.specs.Result.{result_ok}
use Rattle.registers.specs.declared.dump.ConfigRegisterDump.{ConfigRegisterDump}
use Rattle.registers.specs.declared.error.ByteReceiveError.{ByteReceiveError}
use Rattle.registers.specs.declared.error.ByteSendError.{ByteSendError}
use Rattle.registers.specs.declared.error.RemoteReadyToReceiveError.{RemoteReadyToReceiveError}
use Rattle.registers.specs.declared.error.Wait.TheVariants as wait
use Rattle.registers.specs.Offsets.{at_ier, at_isr, at_lcr, at_mcr, at_spr}
use Rattle.registers.specs.Refusal.{refusal, receive_refusal, send_refusal, remote_refusal, budget_refusal}
use Rattle.backends.specs.Device.{Device}
use Rattle.driver.specs.declared.budget.Transferred.{Transferred}
use Rattle.driver.specs.declared.uart.Uart16550.{Uart16550}
use Rattle.driver.specs.Kept.{kept, verdict}
use Rattle.driver.specs.Traces.{Ran, Probe}
use Rattle.driver.specs.Receives.{AskedReady, Received, ReceivedOne, ReceivedExactly}
use Rattle.driver.specs.Sends.{AskedToSend, Sent, SentExactly}
use Rattle.driver.specs.Getters.{Looked, LineLooked, ModemLooked, Connected, DivisorLooked, Switched, Dumped}
use Rattle.ledger.specs.declared.call.Call.{Call}
use Rattle.ledger.specs.declared.call.Call.TheVariants as call
use Rattle.ledger.specs.declared.call.Answer.{Answer}
use Rattle.ledger.specs.declared.call.Answer.TheVariants as answer

-- the call as it was made, the call with its buffer as it is at the end, and its answer: what led from the driver `old` to the driver `new`
pub data Did {S : Type 0} (d : Device S) (old new : Uart16550 S) : Call → Call → Option Answer → Type 0 where
  try_receive : (r : Result ℕ ByteReceiveError) → ReceivedOne d old new (result_ok r) → Did d old new call.TryReceive call.TryReceive (Some (answer.Byte r))
  receive : (u v : Vec ℕ) (n : ℕ) → Received d old new (vec_items u) (vec_items v) n → Did d old new (call.Receive u) (call.Receive v) (Some (answer.Count n))
  receive_exact : (u v : Vec ℕ) (n : ℕ) (r : Transferred)
      → ReceivedExactly d old new n wait.Receive (vec_items u) (vec_items v) (verdict budget_refusal r.result) r.fruitless r.moved
      → Did d old new (call.ReceiveExact u n) (call.ReceiveExact v n) (Some (answer.Exact r))
  ready_to_receive : (r : Result (Unit {0}) ByteReceiveError) → AskedReady d old new (verdict receive_refusal r)
      → Did d old new call.ReadyToReceive call.ReadyToReceive (Some (answer.ReadyToReceive r))
  try_send : (b : ℕ) (r : Result (Unit {0}) ByteSendError) → Sent d old new (b ∷ []) (cond (is_ok r) 1 0)
      → verdict send_refusal r ≡ cond (is_ok r) None (Some (refusal 11 [])) → Did d old new (call.TrySend b) (call.TrySend b) (Some (answer.Sent r))
  send : (v : Vec ℕ) (n : ℕ) → Sent d old new (vec_items v) n → Did d old new (call.Send v) (call.Send v) (Some (answer.Count n))
  send_exact : (v : Vec ℕ) (n : ℕ) (r : Transferred)
      → SentExactly d old new (vec_items v) n wait.Send (verdict budget_refusal r.result) r.fruitless r.moved
      → Did d old new (call.SendExact v n) (call.SendExact v n) (Some (answer.Exact r))
  ready_to_send : (r : Result (Unit {0}) ByteSendError) → AskedToSend d old new (verdict send_refusal r) → Did d old new call.ReadyToSend call.ReadyToSend (Some (answer.Sent r))
  check_connected : (r : Result (Unit {0}) RemoteReadyToReceiveError) → Connected d old new (verdict remote_refusal r)
      → Did d old new call.CheckConnected call.CheckConnected (Some (answer.Connected r))
  check_present : (r : Bool) → Ran d (Probe r) old.backend new.backend → kept new ≡ kept old → Did d old new call.CheckPresent call.CheckPresent (Some (answer.Present r))
  enable : (b : ℕ) → Switched d old new (λ v. bit_or v b) → Did d old new (call.EnableInterrupts b) (call.EnableInterrupts b) (Some answer.Done)
  disable : (b : ℕ) → Switched d old new (λ v. bit_and v (255 - b)) → Did d old new (call.DisableInterrupts b) (call.DisableInterrupts b) (Some answer.Done)
  ier : (v : ℕ) → Looked d old new at_ier v → Did d old new call.Ier call.Ier (Some (answer.Register v))
  isr : (v : ℕ) → Looked d old new at_isr v → Did d old new call.Isr call.Isr (Some (answer.Register v))
  lcr : (v : ℕ) → Looked d old new at_lcr v → Did d old new call.Lcr call.Lcr (Some (answer.Register v))
  mcr : (v : ℕ) → Looked d old new at_mcr v → Did d old new call.Mcr call.Mcr (Some (answer.Register v))
  lsr : (v : ℕ) → LineLooked d old new v → Did d old new call.Lsr call.Lsr (Some (answer.Register v))
  msr : (v : ℕ) → ModemLooked d old new v → Did d old new call.Msr call.Msr (Some (answer.Register v))
  spr : (v : ℕ) → Looked d old new at_spr v → Did d old new call.Spr call.Spr (Some (answer.Register v))
  dll_dlm : (a b : ℕ) → DivisorLooked d old new a b → Did d old new call.DllDlm call.DllDlm (Some (answer.Divisor a b))
  dump : (v : ConfigRegisterDump) → Dumped d old new v → Did d old new call.Dump call.Dump (Some (answer.Dump v))

-- the same call: its arguments stay, and a buffer to receive into keeps its length
pub data SameCall : Call → Call → Type 0 where
  unchanged : (c : Call) → SameCall c c
  received_into : (u v : Vec ℕ) → length (vec_items v) ≡ length (vec_items u) → SameCall (call.Receive u) (call.Receive v)
  filled_into : (u v : Vec ℕ) (n : ℕ) → length (vec_items v) ≡ length (vec_items u) → SameCall (call.ReceiveExact u n) (call.ReceiveExact v n)
