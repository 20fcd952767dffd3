use Rattle.std.proofs.Common.{◌<◌, length, drop, sym, ap, ◌∙◌, arith}
use Rattle.std.proofs.lemmas.Option.{slice_get_within}
use Rattle.bench.proofs.Window.{length-window, window_after_pop}
use Rattle.bench.proofs.ring.Ring.pop.Goals as goal

-- there is an oldest item, and behind it stands the window from the next place on
pub returns-clause-rest : goal.returns-clause-rest
returns-clause-rest g c =
    let q = c.self.inside in
    let i = c.self.invariant in
    let nonempty : 0 < length c.args.self.now = slice_get_within _ _ _ (sym c.get.ensures ∙ c.in_ok-oldest.was) in
    let length_old = length-window 16 _ _ q.cells i.1 i.2 i.0 in
    let same_length = ap length c.self.view_is in
    let some : 0 < q.len = omega arith in
    window_after_pop 16 _ _ q.cells i.1 i.2 i.0 some ∙ ap (λ xs. drop 1 xs) c.self.view_is
