use Rattle.std.proofs.Common.{◌+◌, ◌≤◌, length}
use Rattle.std.specs.Slice.Iter.{chunks_exact_mut_rest}
use Rattle.measured.proofs.runs.receive.Given as goal

-- with a character for each place that is left, no more came than there are places
abbrev pub invariant-loop-piece : goal.invariant-loop-piece
invariant-loop-piece g l = l.received + length (chunks_exact_mut_rest l.piece-iterator) ≤ length l.fn.buffer
