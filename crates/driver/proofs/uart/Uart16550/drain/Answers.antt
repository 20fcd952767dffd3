use Rattle.std.proofs.Common.{[], ◌∷◌, ◌++◌, refl, arith}
use Rattle.std.proofs.lemmas.Result.{err_from_is_err_and}
use Rattle.driver.specs.Receives.{took, missed}
use Rattle.driver.specs.Loopback.{emptied, flooded}
use Rattle.driver.proofs.Tries.{no_tries, made_append}
use Rattle.driver.proofs.Looping.{drain_more, got_miss, done, one_drained}
use Rattle.driver.proofs.uart.Uart16550.drain.Goals as goal

pub loop-budget-init : goal.loop-budget-init
loop-budget-init g c = ([], no_tries, refl, omega arith, c.requires, refl)

pub loop-budget-preserved : goal.loop-budget-preserved
loop-budget-preserved g c =
    let i = c.loop-budget.invariant in
    let q = c.in-Ok.ensures in
    let m = drain_more i.0 q.status c.in-Ok.field-0 i.2 in (
      i.0 ++ (took q.status c.in-Ok.field-0 ∷ []),
      made_append i.1 q.made,
      m.0,
      omega (arith, m.1),
      omega (arith, c.in_ok-spend.ensures.answer),
      omega arith,
    )

pub returns-in_err-spend : goal.returns-in_err-spend
returns-in_err-spend g c =
    let i = c.loop-budget.invariant in
    let q = c.in-Ok.ensures in
    let m = drain_more i.0 q.status c.in-Ok.field-0 i.2 in
    let e = err_from_is_err_and c.from_residual.result c.from_residual.ensures.1 in
    let b = c.in_err-spend.ensures.answer in
    let us = i.0 ++ (took q.status c.in-Ok.field-0 ∷ []) in
    rw (e.1, e.2, b.0) (record {
      limit = omega arith;
      room = tt;
      drained = done
          (one_drained (made_append i.1 q.made))
          (flooded us (made_append i.1 q.made).sound m.0 (omega (arith, m.1, b.1))) (omega (arith, m.1));
    })

pub returns : goal.returns
returns g c =
    let i = c.loop-budget.invariant in
    let q = c.in_default.ensures in
    let us = i.0 ++ (missed q.status ∷ []) in
    record {
      limit = omega arith;
      room = omega arith;
      drained = done
          (one_drained (made_append i.1 q.made))
          (emptied i.0 q.status (made_append i.1 q.made).sound i.2 (omega arith)) (omega (arith, got_miss i.0 q.status));
    }
