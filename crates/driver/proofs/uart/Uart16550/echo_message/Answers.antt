use Rattle.std.proofs.Common.{refl, arith}
use Rattle.std.proofs.lemmas.Result.{err_from_is_err_and}
use Rattle.driver.specs.Loopback.{at_once, start}
use Rattle.driver.proofs.Looping.{done, done_as, moved_none}
use Rattle.driver.proofs.LoopTest.{cut_singly, more_singly, all_singly}
use Rattle.driver.proofs.uart.Uart16550.echo_message.Goals as goal

pub returns-then-self : goal.returns-then-self
returns-then-self g c = done_as c.echo.ensures.echoed (λ ps p. (at_once _ ps c.if-self.true p.0, p.1))

pub loop-i-init : goal.loop-i-init
loop-i-init g c = (done moved_none (start, refl, refl) (omega arith), c.requires, refl)

pub returns-in_err-echo : goal.returns-in_err-echo
returns-in_err-echo g c =
    let e = err_from_is_err_and c.from_residual.result c.from_residual.ensures.1 in
    let i = c.loop-i.invariant in
    rw (e.1, e.2) (cut_singly c.args.budget.now.limit c.loop-i.i i.0 (omega arith) c.if-self.false i.2 c.in_err-echo.ensures.echoed)

pub loop-i-preserved : goal.loop-i-preserved
loop-i-preserved g c =
    let i = c.loop-i.invariant in
    let q = c.in_ok-echo.ensures in (
      more_singly c.args.budget.now.limit c.loop-i.i i.0 (omega arith) (omega arith) i.2 q.echoed,
      omega (arith, q.room, q.limit),
      omega (arith, q.limit),
    )

pub returns : goal.returns
returns g c =
    let i = c.loop-i.invariant in
    all_singly c.args.budget.now.limit c.loop-i.i (omega arith) (omega arith) c.if-self.false i.0
