use Rattle.std.proofs.Common.{refl, ◌∙◌, arith}
use Rattle.std.proofs.lemmas.Result.{err_from_is_err_and}
use Rattle.driver.proofs.Looping.{echo_cut, echo_whole, fills_within, sends_within}
use Rattle.driver.proofs.uart.Uart16550.echo.Goals as goal

pub returns-in_err-send_all : goal.returns-in_err-send_all
returns-in_err-send_all g c =
    let e = err_from_is_err_and c.from_residual.result c.from_residual.ensures.1 in
    let q = c.send_all.ensures in
    rw (e.1, e.2) (record {
      limit = q.limit;
      room = tt;
      echoed = echo_cut c.args.budget.now.limit (rw c.in_err-send_all.was at q.sent) q.spent;
    })

pub fill-requires : goal.fill-requires
fill-requires g c =
    let q = c.send_all.ensures in
    let z = rw c.in_ok-send_all.was at q.sent in
    let w = sends_within _ _ _ c.args.budget.now.limit _ _ _ _ _ z.sends z.counted q.spent c.requires.room refl in
    omega (arith, w, q.limit)

pub returns : goal.returns
returns g c =
    let q = c.send_all.ensures in
    let z = rw c.in_ok-send_all.was at q.sent in
    let r = c.fill.ensures in
    let w = sends_within _ _ _ c.args.budget.now.limit _ _ _ _ _ z.sends z.counted q.spent c.requires.room refl in
    record {
      limit = r.limit ∙ q.limit;
      room = fills_within _ _ c.args.budget.now.limit _ _ _ _ _ r.filled.fills r.filled.counted r.spent w (omega (arith, q.limit));
      echoed = echo_whole c.args.budget.now.limit z q.spent r.filled r.spent q.limit c.requires.lengths;
    }
