use Rattle.std.proofs.Common.{vec_items}
use Rattle.calls.proofs.Spelling.{Sofar}
use Rattle.calls.proofs.hex.bytes_of.Given as goal

abbrev pub invariant-loop-high : goal.invariant-loop-high
invariant-loop-high l = Sofar l.fn.word l.high-index (vec_items l.bytes)
