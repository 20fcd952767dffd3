use Rattle.std.proofs.Common.{◌≡◌}
use Rattle.std.specs.List.{fold}
use Rattle.throughput.proofs.totals.TotalsSum.sum.Given as goal
use Rattle.throughput.specs.Sums.{added, none}

-- the totals of the items so far
abbrev pub invariant-loop-more : goal.invariant-loop-more
invariant-loop-more g l = l.totals ≡ fold added none l.yielded
