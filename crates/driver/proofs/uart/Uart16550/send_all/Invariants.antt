use Rattle.std.proofs.Common.{◌≡◌, ◌+◌, ◌-◌, ◌≤◌, List, length}
use Rattle.driver.specs.Kept.{kept}
use Rattle.driver.specs.Sends.{Attempt, Attempts, taken, refusals, Made}
use Rattle.driver.proofs.uart.Uart16550.send_all.Given as goal

-- the bytes so far were taken, from the front
abbrev pub invariant-loop-moved : goal.invariant-loop-moved
invariant-loop-moved g l = (tried : List Attempt)
    × Made g.B.Backend.device l.initial.self l.self tried
    × Attempts (kept l.initial.self) l.bytes tried
    × (l.moved ≡ length (taken tried))
    × (l.moved ≤ length l.bytes)
    × (l.budget.fruitless ≡ l.initial.budget.fruitless + refusals tried)
    × (l.budget.fruitless ≤ l.budget.limit)
    × (l.budget.limit ≡ l.initial.budget.limit)

abbrev pub decreases-loop-moved : goal.decreases-loop-moved
decreases-loop-moved g l = (length l.bytes - l.moved) + (l.budget.limit + 1 - l.budget.fruitless)
