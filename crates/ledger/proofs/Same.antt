-- A call that was made is the same call.
use Rattle.std.proofs.Common.{◌≡◌, ℕ, ◌+◌, ◌≤◌, List, [], ◌∷◌, ◌++◌, length, drop, Option, ap, ◌∙◌, arith, length-append, length-drop}
use Rattle.std.proofs.lemmas.Grind.{flat_map-append}
use Rattle.registers.specs.declared.error.Wait.{Wait}
use Rattle.registers.specs.Refusal.{Refusal}
use Rattle.backends.specs.Device.{Device}
use Rattle.driver.specs.declared.uart.Uart16550.{Uart16550}
use Rattle.driver.specs.Receives.{Try, took, missed, byte_of, got, filled, FillsExactly, no_room, all, cut}
use Rattle.driver.proofs.Filling.{fills_within}
use Rattle.ledger.specs.declared.call.Call.{Call}
use Rattle.ledger.specs.declared.call.Answer.{Answer}
use Rattle.ledger.specs.Did.{Did, try_receive, receive, receive_exact, ready_to_receive, try_send, send, send_exact, ready_to_send, check_connected, check_present, enable, disable, ier, isr, lcr, mcr, lsr, msr, spr, dll_dlm, dump, SameCall, unchanged, received_into, filled_into}

got_more : (ts us : List Try) → length (got (ts ++ us)) ≡ length (got ts) + length (got us)
got_more ts us = ap length (flat_map-append byte_of ts us) ∙ length-append (got ts) (got us)

exactly_within : (room n : ℕ) (w : Wait) (x : Option Refusal) (ts : List Try) → FillsExactly room n w x ts → length (got ts) ≤ room
exactly_within room n w x ts (no_room e) = omega arith
exactly_within room n w x ts (all us v b h e) = omega (arith, got_more us (took v b ∷ []))
exactly_within room n w x ts (cut us v e h) = omega (arith, got_more us (missed v ∷ []))

-- a filled buffer is as long as it was
filled_length : (xs before : List ℕ) → length xs ≤ length before → length (filled xs before) ≡ length before
filled_length xs before h = let a = length-append xs (drop (length xs) before) in let b = length-drop (length xs) before in omega arith

pub same_call : {S : Type 0} (d : Device S) (u v : Uart16550 S) (b c : Call) (a : Option Answer) → Did d u v b c a → SameCall b c
same_call d u v b c a (try_receive r w) = unchanged b
same_call d u v b c a (receive x y n w) = received_into x y (ap length w.buffer ∙ filled_length (got w.ts) _ (fills_within _ w.ts w.fills))
same_call d u v b c a (receive_exact x y n r w) = filled_into x y n (ap length w.buffer ∙ filled_length (got w.ts) _ (exactly_within _ _ _ _ w.ts w.fills))
same_call d u v b c a (ready_to_receive r w) = unchanged b
same_call d u v b c a (try_send z r w e) = unchanged b
same_call d u v b c a (send x n w) = unchanged b
same_call d u v b c a (send_exact x n r w) = unchanged b
same_call d u v b c a (ready_to_send r w) = unchanged b
same_call d u v b c a (check_connected r w) = unchanged b
same_call d u v b c a (check_present r w e) = unchanged b
same_call d u v b c a (enable z w) = unchanged b
same_call d u v b c a (disable z w) = unchanged b
same_call d u v b c a (ier x w) = unchanged b
same_call d u v b c a (isr x w) = unchanged b
same_call d u v b c a (lcr x w) = unchanged b
same_call d u v b c a (mcr x w) = unchanged b
same_call d u v b c a (lsr x w) = unchanged b
same_call d u v b c a (msr x w) = unchanged b
same_call d u v b c a (spr x w) = unchanged b
same_call d u v b c a (dll_dlm x y w) = unchanged b
same_call d u v b c a (dump x w) = unchanged b
