use Rattle.std.proofs.Common.{◌≡◌, ◌+◌, ◌-◌, ◌≤◌}
use Rattle.driver.specs.Traces.{StayedBusy}
use Rattle.driver.proofs.uart.Uart16550.wait_for_transmitter.Given as goal

abbrev pub invariant-loop-budget : goal.invariant-loop-budget
invariant-loop-budget g l = (l.budget.fruitless ≤ l.budget.limit)
    × (l.budget.limit ≡ l.initial.budget.limit)
    × StayedBusy g.B.Backend.device l.initial.self l.self l.initial.budget.fruitless l.budget.fruitless

abbrev pub decreases-loop-budget : goal.decreases-loop-budget
decreases-loop-budget g l = l.budget.limit + 1 - l.budget.fruitless
