use Rattle.std.proofs.Common.{sym, ◌∙◌, arith}
use Rattle.std.proofs.lemmas.Result.{err_from_is_err_and}
use Rattle.driver.proofs.Waits.{still_busy, now_empty}
use Rattle.driver.proofs.uart.Uart16550.wait_for_transmitter.Goals as goal

pub loop-budget-preserved : goal.loop-budget-preserved
loop-budget-preserved g c = (
  omega (arith, c.in_ok-spend.ensures.answer),
  omega arith,
  still_busy c.read_lsr.result c.loop-budget.invariant.2 c.read_lsr.ensures.accesses
      c.read_lsr.ensures.keeps (sym c.contains.ensures ∙ c.loop-budget-test.true) c.spend.ensures.counted,
)

pub returns-in_err-spend : goal.returns-in_err-spend
returns-in_err-spend g c =
    let p = err_from_is_err_and c.from_residual.result c.from_residual.ensures.1 in
    let q = c.in_err-spend.ensures.answer in
    rw (p.1, p.2) (record {
      limit = omega arith;
      answer = (
        q.0,
        omega (arith, q.1),
        still_busy c.read_lsr.result c.loop-budget.invariant.2 c.read_lsr.ensures.accesses
            c.read_lsr.ensures.keeps (sym c.contains.ensures ∙ c.loop-budget-test.true) c.spend.ensures.counted,
      );
    })

pub returns : goal.returns
returns g c = record {
  limit = c.loop-budget.invariant.1;
  answer = (
    omega arith,
    now_empty c.read_lsr.result c.loop-budget.invariant.2 c.read_lsr.ensures.accesses
        c.read_lsr.ensures.keeps (sym c.contains.ensures ∙ c.loop-budget-test.false),
  );
}
