use Rattle.std.proofs.Common.{◌≡◌, ◌+◌, ◌-◌, ◌≤◌, List, []}
use Rattle.driver.specs.Receives.{Try, got, misses, Made}
use Rattle.driver.proofs.uart.Uart16550.receive_waiting.Given as goal

-- no try so far took a character
abbrev pub invariant-loop-byte : goal.invariant-loop-byte
invariant-loop-byte g l = (ts : List Try)
    × Made g.B.Backend.device l.initial.self l.self ts
    × (got ts ≡ [])
    × (l.budget.fruitless ≡ l.initial.budget.fruitless + misses ts)
    × (l.budget.fruitless ≤ l.budget.limit)
    × (l.budget.limit ≡ l.initial.budget.limit)

abbrev pub decreases-loop-byte : goal.decreases-loop-byte
decreases-loop-byte g l = l.budget.limit + 1 - l.budget.fruitless
