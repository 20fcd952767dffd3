use Rattle.std.proofs.Common.{◌≡◌, length}
use Rattle.bench.specs.State.{state, IsSound}
use Rattle.bench.specs.TapeAndLine.{came, filled}
use Rattle.bench.proofs.tape_and_line.TapeAndLine.fill.Given as goal

abbrev pub invariant-loop-self : goal.invariant-loop-self
invariant-loop-self l = record {
  exact : filled (state l.core l.self) ≡ filled (state l.initial.core l.initial.self);
  sound : IsSound came (state l.core l.self);
}

abbrev pub decreases-loop-self : goal.decreases-loop-self
decreases-loop-self l = length l.self.tape.coming
