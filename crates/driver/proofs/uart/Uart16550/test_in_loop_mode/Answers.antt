use Rattle.driver.proofs.LoopTest.{in_loop}
use Rattle.driver.proofs.uart.Uart16550.test_in_loop_mode.Goals as goal

pub returns : goal.returns
returns g c = in_loop c.configure_fcr.ensures.accesses c.configure_fcr.ensures.keeps c.test_transfers.ensures
