use Rattle.std.proofs.Common.{sym, ap}
use Rattle.driver.proofs.Runs.{runs_write}
use Rattle.driver.proofs.Init.{fifo_alone, opened_all}
use Rattle.driver.proofs.uart.Uart16550.prepare.Goals as goal

pub returns : goal.returns
returns g c =
    let d = g.B.Backend.device in
    record {
      accesses = opened_all d _ _ _ _ _ _ _ _ _ _ (ap (λ k. k.config) c.set_line.ensures.keeps) (sym (ap (λ k. k.fifo) c.discard_received.ensures.keeps))
          c.set_line.ensures.accesses c.configure_fcr.ensures.accesses c.discard_received.ensures.accesses
          (runs_write d 4 0x0B _ _ c.write.ensures.state);
      keeps = fifo_alone _ _ _ _ c.set_line.ensures.keeps c.configure_fcr.ensures.keeps c.discard_received.ensures.keeps;
    }
