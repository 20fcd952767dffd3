use Rattle.std.proofs.Common.{refl, rules}
use Rattle.driver.specs.Traces.{cleared}
use Rattle.driver.proofs.uart.Uart16550.clear_status.Goals as goal

pub returns : goal.returns
returns g c =
    record { accesses = (_, cleared c.read.result c.read-2.result c.read-3.result, search rules); keeps = refl }
