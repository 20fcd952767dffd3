use Prim.Native.Nat.{◌≤◌}
use Rattle.measured.proofs.runs.send.Given as goal

-- at most one for each round so far
abbrev pub invariant-loop-round : goal.invariant-loop-round
invariant-loop-round g l = l.done ≤ l._round
