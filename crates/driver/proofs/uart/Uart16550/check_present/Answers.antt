use Rattle.std.proofs.Common.{[], ◌∷◌}
use Rattle.backends.specs.Device.{rd, wr}
use Rattle.driver.specs.Traces.{probe}
use Rattle.driver.proofs.Runs.{runs_append, runs_read, runs_write}
use Rattle.driver.proofs.uart.Uart16550.check_present.Goals as goal

pub returns : goal.returns
returns g c =
    let d = g.B.Backend.device in
    let o = c.read-old.result in
    let p = c.keeps_patterns-present.ensures.accesses in
    let s = c.args.self.now.backend in
    let t = c.read-old.new.self in
    let u = c.keeps_patterns-present.new.self.backend in
    let v = c.write.new.self in
    let r = runs_read d 7 o s t c.read-old.ensures.value c.read-old.ensures.state in
    let w = runs_write d 7 o u v c.write.ensures.state in
    record {
      accesses = (_, probe o p.0 p.1, runs_append d (rd 7 o ∷ p.0) (wr 7 o ∷ []) s u v (runs_append d (rd 7 o ∷ []) p.0 s t u r p.2) w);
      keeps = c.keeps_patterns-present.ensures.keeps;
    }
