use Rattle.std.proofs.Common.{◌∙◌, rules}
use Rattle.std.specs.Vec.{with_items}
use Rattle.std.proofs.lemmas.List.{with_items_is}
use Rattle.ledger.specs.Did as did
use Rattle.ledger.proofs.list.perform.Goals as goal

pub returns-in-TryReceive : goal.returns-in-TryReceive
returns-in-TryReceive g c = rw c.in-TryReceive.is (did.try_receive c.try_receive_byte.result c.try_receive_byte.ensures)

pub returns-in-Receive : goal.returns-in-Receive
returns-in-Receive g c =
    let e = with_items_is c.in-Receive.buffer c.receive_bytes.new.buffer (c.receive_bytes.auto.buffer ∙ c.deref_mut.ensures.len) in
    rw c.in-Receive.is (did.receive c.in-Receive.buffer (with_items c.in-Receive.buffer c.receive_bytes.new.buffer) c.receive_bytes.result
    (rw e (rw c.deref_mut.ensures.value at c.receive_bytes.ensures)))

pub returns-in-ReceiveExact : goal.returns-in-ReceiveExact
returns-in-ReceiveExact g c =
    let e = with_items_is c.in-ReceiveExact.buffer c.receive_bytes_exact.new.buffer (c.receive_bytes_exact.auto.buffer ∙ c.deref_mut-in-ReceiveExact.ensures.len) in
    rw c.in-ReceiveExact.is (did.receive_exact c.in-ReceiveExact.buffer (with_items c.in-ReceiveExact.buffer c.receive_bytes_exact.new.buffer) c.in-ReceiveExact.budget c.receive_bytes_exact.result
    (rw e (rw c.deref_mut-in-ReceiveExact.ensures.value at c.receive_bytes_exact.ensures)))

pub returns-in-ReadyToReceive : goal.returns-in-ReadyToReceive
returns-in-ReadyToReceive g c = rw c.in-ReadyToReceive.is (did.ready_to_receive _ c.ready_to_receive.ensures)

pub returns-in-TrySend : goal.returns-in-TrySend
returns-in-TrySend g c = rw c.in-TrySend.is (did.try_send _ _ c.try_send_byte.ensures.sent c.try_send_byte.ensures.answer)

pub returns-in-Send : goal.returns-in-Send
returns-in-Send g c = rw c.in-Send.is (did.send _ _ (rw c.deref.ensures.value at c.send_bytes.ensures))

pub returns-in-SendExact : goal.returns-in-SendExact
returns-in-SendExact g c = rw c.in-SendExact.is (did.send_exact _ _ _ (rw c.deref-in-SendExact.ensures.value at c.send_bytes_exact.ensures))

pub returns-in-ReadyToSend : goal.returns-in-ReadyToSend
returns-in-ReadyToSend g c = rw c.in-ReadyToSend.is (did.ready_to_send _ c.ready_to_send.ensures)

pub returns-in-CheckConnected : goal.returns-in-CheckConnected
returns-in-CheckConnected g c = rw c.in-CheckConnected.is (did.check_connected _ c.check_connected.ensures)

pub returns-in-CheckPresent : goal.returns-in-CheckPresent
returns-in-CheckPresent g c = rw c.in-CheckPresent.is (did.check_present _ c.check_present.ensures.accesses c.check_present.ensures.keeps)

pub returns-in-EnableInterrupts : goal.returns-in-EnableInterrupts
returns-in-EnableInterrupts g c = rw c.in-EnableInterrupts.is (did.enable _ c.enable_interrupts.ensures)

pub returns-in-DisableInterrupts : goal.returns-in-DisableInterrupts
returns-in-DisableInterrupts g c = rw c.in-DisableInterrupts.is (did.disable _ c.disable_interrupts.ensures)

pub returns-in-Ier : goal.returns-in-Ier
returns-in-Ier g c = rw c.in-Ier.is (did.ier _ c.ier.ensures)

pub returns-in-Isr : goal.returns-in-Isr
returns-in-Isr g c = rw c.in-Isr.is (did.isr _ c.isr.ensures)

pub returns-in-Lcr : goal.returns-in-Lcr
returns-in-Lcr g c = rw c.in-Lcr.is (did.lcr _ c.lcr.ensures)

pub returns-in-Mcr : goal.returns-in-Mcr
returns-in-Mcr g c = rw c.in-Mcr.is (did.mcr _ c.mcr.ensures)

pub returns-in-Lsr : goal.returns-in-Lsr
returns-in-Lsr g c = rw c.in-Lsr.is (search (rules, did.lsr))

pub returns-in-Msr : goal.returns-in-Msr
returns-in-Msr g c = rw c.in-Msr.is (did.msr _ c.msr.ensures)

pub returns-in-Spr : goal.returns-in-Spr
returns-in-Spr g c = rw c.in-Spr.is (did.spr _ c.spr.ensures)

pub returns-in-DllDlm : goal.returns-in-DllDlm
returns-in-DllDlm g c = rw c.in-DllDlm.is (did.dll_dlm _ _ c.dll_dlm-low.ensures)

pub returns-in-Dump : goal.returns-in-Dump
returns-in-Dump g c = rw c.in-Dump.is (did.dump _ c.config_register_dump.ensures)
