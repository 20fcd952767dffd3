use Rattle.std.proofs.Common.{[], ◌∷◌, ◌++◌, refl, arith}
use Rattle.std.proofs.lemmas.Result.{err_from_is_err_and}
use Rattle.driver.specs.Receives.{took, missed, came, late}
use Rattle.driver.proofs.Tries.{no_tries, made_append}
use Rattle.driver.proofs.Filling.{still_none, one_miss_more, no_miss_more}
use Rattle.driver.proofs.uart.Uart16550.receive_waiting.Goals as goal

pub loop-byte-init : goal.loop-byte-init
loop-byte-init g c = ([], no_tries, refl, omega arith, c.requires, refl)

pub loop-byte-preserved : goal.loop-byte-preserved
loop-byte-preserved g c =
    let i = c.loop-byte.invariant in
    let q = c.in_default.ensures in (
      i.0 ++ (missed q.status ∷ []),
      made_append i.1 q.made,
      still_none i.0 q.status i.2,
      omega (arith, one_miss_more i.0 q.status),
      omega (arith, c.in_ok-spend.ensures.answer),
      omega arith,
    )

pub returns-in_err-spend : goal.returns-in_err-spend
returns-in_err-spend g c =
    let i = c.loop-byte.invariant in
    let q = c.in_default.ensures in
    let e = err_from_is_err_and c.from_residual.result c.from_residual.ensures.1 in
    let b = c.in_err-spend.ensures.answer in
    rw (e.1, e.2, b.0) (record {
      limit = omega arith;
      waited = (
        i.0 ++ (missed q.status ∷ []),
        late i.0 q.status (omega (arith, b.1)) i.2,
        made_append i.1 q.made,
        omega (arith, one_miss_more i.0 q.status),
      );
    })

pub returns-in-Ok : goal.returns-in-Ok
returns-in-Ok g c =
    let i = c.loop-byte.invariant in
    let q = c.in-Ok.ensures in
    let b = c.in-Ok.byte in
    record {
      limit = omega arith;
      waited = (
        i.0 ++ (took q.status b ∷ []),
        came i.0 q.status b (omega arith) i.2,
        made_append i.1 q.made,
        omega (arith, no_miss_more i.0 q.status b),
      );
    }
