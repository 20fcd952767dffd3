use Rattle.std.proofs.Common.{◌-◌, [], ◌∷◌, get_or, take, sym, refl, subst, arith}
use Rattle.std.proofs.lemmas.List.{take_more, map-append}
use Rattle.std.proofs.lemmas.Bool.{eqb-true, eqb-false}
use Rattle.backends.specs.Device.{Runs, wr}
use Rattle.driver.specs.Sends.{writes_of}
use Rattle.driver.proofs.Runs.{runs_append, runs_write}
use Rattle.driver.proofs.Sending.{sent_nothing, sent_refused, sent_some}
use Rattle.driver.proofs.uart.Uart16550.send_bytes.Goals as goal

pub returns-then-is_empty : goal.returns-then-is_empty
returns-then-is_empty g c = sent_nothing (eqb-true _ _ (sym c.if-is_empty.ensures)) refl refl

pub returns-in_default : goal.returns-in_default
returns-in_default g c =
    let e = eqb-false _ _ (sym c.if-is_empty.ensures) in
    sent_refused (omega arith) c.in_default.ensures

pub loop-byte-init : goal.loop-byte-init
loop-byte-init g c = (refl, refl)

pub loop-byte-preserved : goal.loop-byte-preserved
loop-byte-preserved g c =
    let d = g.B.Backend.device in
    let i = c.loop-byte.byte-index in
    let m = take_more (take (c.min-count.result - 0) c.args.buffer.now) i 0 c.loop-byte-test.true in (
      subst (λ bs. Runs d (writes_of bs) c.ready_to_send.new.self.backend c.write.new.self) (sym m)
          (rw (map-append (wr 0)) (runs_append d (writes_of (take i (take (c.min-count.result - 0) c.args.buffer.now))) (wr 0 (get_or (take (c.min-count.result - 0) c.args.buffer.now) i 0) ∷ []) _ _ _
          c.loop-byte.invariant.0 (runs_write d 0 _ _ _ c.write.ensures.state))),
      c.loop-byte.invariant.1,
    )

pub returns : goal.returns
returns g c =
    let e = eqb-false _ _ (sym c.if-is_empty.ensures) in
    sent_some c.min-count.result c.loop-byte.byte-index c.burst.result (omega arith) c.in-Ok.ensures c.loop-byte.invariant.1
    c.burst.ensures c.min-count.ensures c.loop-byte-test.false c.loop-byte.invariant.0
