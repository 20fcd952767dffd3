use Rattle.std.proofs.Common.{◌<◌, [], ◌∷◌, ◌++◌, length, ap, ◌∙◌, arith}
use Rattle.bench.proofs.Window.{length-window, window_after_push}
use Rattle.bench.proofs.ring.Ring.push.Goals as goal

-- the write is behind the last item, since the queue has room
pub returns : goal.returns
returns g c =
    let q = c.self.inside in
    let i = c.self.invariant in
    let length_old = length-window 16 _ _ q.cells i.1 i.2 i.0 in
    let same_length = ap length c.self.view_is in
    let has_room : q.len < 16 = omega arith in
    window_after_push 16 _ _ q.cells i.1 i.2 i.0 c.args.item has_room ∙ ap (λ xs. xs ++ c.args.item ∷ []) c.self.view_is
