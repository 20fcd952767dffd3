use Rattle.std.proofs.Common.{◌≡◌, ◌+◌, ◌-◌, [], ◌∷◌, ◌++◌, sym, refl, subst, append_assoc, append-nil, add-zero, arith}
use Rattle.backends.specs.Device.{rd}
use Rattle.driver.specs.Traces.{Discarded, all_read, none_left, one_read}
use Rattle.driver.proofs.Runs.{runs_append, runs_read}
use Rattle.driver.proofs.uart.Uart16550.discard_received.Goals as goal

pub loop-init : goal.loop-init
loop-init g c = ([], (λ n zs h. rw add-zero h), refl, refl)

pub returns-then-not-contains : goal.returns-then-not-contains
returns-then-not-contains g c =
    let i = c.loop.invariant in
    let v = c.read.result in
    let n = none_left (16 - c.loop.counter) v (sym c.if-not-contains.ensures) in
    record {
      accesses = (
        i.0 ++ (rd 5 v ∷ []),
        subst (λ m. Discarded m (i.0 ++ (rd 5 v ∷ []))) (omega arith) (i.1 _ _ n),
        runs_append g.B.Backend.device i.0 (rd 5 v ∷ []) _ _ _ i.2 (runs_read g.B.Backend.device 5 v _ _ c.read.ensures.value c.read.ensures.state),
      );
      keeps = i.3;
    }

pub loop-preserved : goal.loop-preserved
loop-preserved g c =
    let d = g.B.Backend.device in
    let i = c.loop.invariant in
    let v = c.read.result in
    let b = c.read-in-loop.result in (
      i.0 ++ (rd 5 v ∷ rd 0 b ∷ []),
      (λ n zs h. rw append_assoc (subst (λ m. Discarded m (i.0 ++ (rd 5 v ∷ rd 0 b ∷ zs))) (omega arith) (i.1 (n + 1) _ (one_read n v b zs (sym c.if-not-contains.ensures) h)))),
      runs_append d i.0 (rd 5 v ∷ rd 0 b ∷ []) _ _ _ i.2
          (runs_append d (rd 5 v ∷ []) (rd 0 b ∷ []) _ _ _
          (runs_read d 5 v _ _ c.read.ensures.value c.read.ensures.state)
          (runs_read d 0 b _ _ c.read-in-loop.ensures.value c.read-in-loop.ensures.state)),
      i.3,
    )

pub returns : goal.returns
returns g c =
    let i = c.loop.invariant in
    let e : 0 + c.loop.counter ≡ 17 = omega arith in
    record {
      accesses = (i.0, rw append-nil at (subst (λ m. Discarded m (i.0 ++ [])) e (i.1 0 [] all_read)), i.2);
      keeps = i.3;
    }
