use Rattle.std.proofs.Common.{length, sym, ap, ◌∙◌}
use Rattle.bench.proofs.Window.{length-window}
use Rattle.bench.proofs.ring.Ring.len.Goals as goal

pub returns-clause-value : goal.returns-clause-value
returns-clause-value g c =
    let q = c.self.inside in
    let i = c.self.invariant in
    sym (length-window 16 _ _ q.cells i.1 i.2 i.0) ∙ ap length c.self.view_is
