use Rattle.std.proofs.Common.{◌∙◌}
use Rattle.std.proofs.lemmas.Result.{err_from_is_err_and}
use Rattle.driver.specs.Loopback.{in_drain}
use Rattle.driver.proofs.Looping.{done_as}
use Rattle.driver.proofs.LoopTest.{stopped_byte, all_three}
use Rattle.driver.proofs.uart.Uart16550.test_transfers.Goals as goal

pub returns-in_err-drain : goal.returns-in_err-drain
returns-in_err-drain g c =
    let e = err_from_is_err_and c.from_residual.result c.from_residual.ensures.1 in
    rw (e.1, e.2) (done_as c.in_err-drain.ensures.drained (λ ps p. in_drain _ ps p))

pub returns-in_err-test_byte : goal.returns-in_err-test_byte
returns-in_err-test_byte g c =
    let e = err_from_is_err_and c.from_residual-in_err-test_byte.result c.from_residual-in_err-test_byte.ensures.1 in
    let p = c.in_ok-drain.ensures in
    rw (e.1, e.2) (stopped_byte c.args.budget.now.limit p.drained p.limit c.in_err-test_byte.ensures.tested)

pub returns : goal.returns
returns g c =
    let p = c.in_ok-drain.ensures in
    let q = c.in_ok-test_byte.ensures in
    all_three c.args.budget.now.limit p.drained p.limit q.tested (q.limit ∙ p.limit) c.test_message.ensures
