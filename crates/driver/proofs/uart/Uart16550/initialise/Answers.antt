use Rattle.std.proofs.Common.{refl}
use Rattle.std.proofs.lemmas.Result.{err_from_is_err_and}
use Rattle.driver.specs.Traces.{DivisorFor}
use Rattle.driver.proofs.Runs.{runs_write}
use Rattle.driver.proofs.Init.{none, missing, too_long, in_time}
use Rattle.driver.proofs.uart.Uart16550.initialise.Goals as goal

pub returns-in_err-divisor : goal.returns-in_err-divisor
returns-in_err-divisor g c =
    let p = err_from_is_err_and c.from_residual.result c.from_residual.ensures.1 in
    rw (p.1, p.2) (none g.B.Backend.device c.args.config _ _ _ _ _ c.to_integer.ensures c.requires c.in_err-divisor.ensures)

pub returns-then-not-check_present : goal.returns-then-not-check_present
returns-then-not-check_present g c =
    let p = c.if-not-check_present.ensures in
    let h : DivisorFor c.args.config c.in_ok-divisor.divisor = rw c.to_integer.ensures at c.in_ok-divisor.ensures in
    missing g.B.Backend.device c.args.config _ _ _ _ _ h p.keeps c.requires p.accesses

pub returns-in_err-wait_for_transmitter : goal.returns-in_err-wait_for_transmitter
returns-in_err-wait_for_transmitter g c =
    let p = err_from_is_err_and c.from_residual-in_err-wait_for_transmitter.result c.from_residual-in_err-wait_for_transmitter.ensures.1 in
    let b = c.in_err-wait_for_transmitter.ensures.answer in
    let q = c.if-not-check_present.ensures in
    let h : DivisorFor c.args.config c.in_ok-divisor.divisor = rw c.to_integer.ensures at c.in_ok-divisor.ensures in
    rw (p.1, p.2, b.0)
    (too_long g.B.Backend.device c.args.config _ _ _ h _ _ q.accesses q.keeps c.prepare.ensures.accesses c.prepare.ensures.keeps
    _ _ _ c.requires b.1 b.2)

pub returns : goal.returns
returns g c =
    let b = c.in_ok-wait_for_transmitter.ensures.answer in
    let q = c.if-not-check_present.ensures in
    let h : DivisorFor c.args.config c.in_ok-divisor.divisor = rw c.to_integer.ensures at c.in_ok-divisor.ensures in
    in_time g.B.Backend.device c.args.config _ _ _ h _ _ q.accesses q.keeps c.prepare.ensures.accesses c.prepare.ensures.keeps
    _ _ _ _ _ _ c.requires b.0 b.1 c.clear_status.ensures.accesses c.clear_status.ensures.keeps refl
    (runs_write g.B.Backend.device 1 _ _ _ c.write.ensures.state)
