use Rattle.std.proofs.Common.{◌≡◌, ◌+◌, ◌-◌, ◌≤◌, List, length}
use Rattle.driver.specs.Receives.{Try, got, misses, Made}
use Rattle.driver.proofs.uart.Uart16550.drain.Given as goal

-- each try so far took a character
abbrev pub invariant-loop-budget : goal.invariant-loop-budget
invariant-loop-budget g l = (ts : List Try)
    × Made g.B.Backend.device l.initial.self l.self ts
    × (misses ts ≡ 0)
    × (l.budget.fruitless ≡ l.initial.budget.fruitless + length (got ts))
    × (l.budget.fruitless ≤ l.budget.limit)
    × (l.budget.limit ≡ l.initial.budget.limit)

abbrev pub decreases-loop-budget : goal.decreases-loop-budget
decreases-loop-budget g l = l.budget.limit + 1 - l.budget.fruitless
