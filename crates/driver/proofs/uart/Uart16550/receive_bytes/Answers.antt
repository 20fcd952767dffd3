use Rattle.std.proofs.Common.{[], refl, arith}
use lib.Seq.{set-get_or}
use Rattle.driver.specs.Receives.{full}
use Rattle.driver.proofs.Tries.{no_tries}
use Rattle.driver.proofs.Filling.{fill_more, fill_short}
use Rattle.driver.proofs.uart.Uart16550.receive_bytes.Goals as goal

pub loop-count-init : goal.loop-count-init
loop-count-init g c = ([], no_tries, refl, refl, refl)

pub returns-in_default : goal.returns-in_default
returns-in_default g c =
    let i = c.loop-count.invariant in
    fill_short c.loop-count.count i.1 i.3 i.4 c.in_default.ensures i.2 (omega arith) (set-get_or c.loop-count.buffer c.loop-count.count 0) refl

pub loop-count-preserved : goal.loop-count-preserved
loop-count-preserved g c =
    let i = c.loop-count.invariant in
    fill_more c.loop-count.count i.1 i.3 i.4 c.in-Ok.byte c.in-Ok.ensures i.2 (omega arith)

pub returns : goal.returns
returns g c =
    let i = c.loop-count.invariant in
    record { ts = i.0; made = i.1; fills = full i.0 i.2 (omega arith); buffer = i.4; answer = omega arith }
