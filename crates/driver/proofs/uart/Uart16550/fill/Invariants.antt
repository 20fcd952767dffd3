use Rattle.std.proofs.Common.{◌≡◌, ◌+◌, ◌-◌, ◌≤◌, List, length, None}
use Rattle.driver.specs.Receives.{Try, got, misses, filled, Made, FillsExactly}
use Rattle.driver.proofs.uart.Uart16550.fill.Given as goal

-- the places so far are filled
abbrev pub invariant-loop-moved : goal.invariant-loop-moved
invariant-loop-moved g l = (ts : List Try)
    × Made g.B.Backend.device l.initial.self l.self ts
    × FillsExactly l.moved (l.initial.budget.limit - l.initial.budget.fruitless) l.wait None ts
    × (length (got ts) ≡ l.moved)
    × (l.buffer ≡ filled (got ts) l.initial.buffer)
    × (l.budget.fruitless ≡ l.initial.budget.fruitless + misses ts)
    × (l.budget.fruitless ≤ l.budget.limit)
    × (l.budget.limit ≡ l.initial.budget.limit)
