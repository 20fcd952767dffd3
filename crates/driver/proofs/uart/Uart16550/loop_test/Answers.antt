use Rattle.std.proofs.lemmas.Result.{err_from_is_err_and}
use Rattle.driver.proofs.LoopTest.{too_busy, whole_test}
use Rattle.driver.proofs.uart.Uart16550.loop_test.Goals as goal

pub returns-in_err-wait_for_transmitter : goal.returns-in_err-wait_for_transmitter
returns-in_err-wait_for_transmitter g c =
    let e = err_from_is_err_and c.from_residual.result c.from_residual.ensures.1 in
    let b = c.in_err-wait_for_transmitter.ensures.answer in
    rw (e.1, e.2, b.0) (too_busy _ c.mcr-mcr.ensures c.ier-ier.ensures c.requires b.1 b.2)

pub returns : goal.returns
returns g c =
    let b = c.in_ok-wait_for_transmitter.ensures in
    whole_test _ c.mcr-mcr.ensures c.ier-ier.ensures b.answer.1 c.enter_loop_mode-msr.result c.enter_loop_mode-msr.ensures.accesses c.enter_loop_mode-msr.ensures.keeps
    _ c.test_in_loop_mode-result.ensures c.leave_loop_mode.ensures c.requires b.answer.0 b.limit
