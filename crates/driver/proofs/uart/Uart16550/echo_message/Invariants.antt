use Rattle.std.proofs.Common.{◌≡◌, ◌-◌, ◌≤◌, length, None}
use Rattle.driver.specs.Kept.{kept}
use Rattle.driver.specs.Receives.{filled}
use Rattle.driver.specs.Loopback.{back, settings, Singly, Done}
use Rattle.driver.proofs.uart.Uart16550.echo_message.Given as goal

-- the bytes so far came back
abbrev pub invariant-loop-i : goal.invariant-loop-i
invariant-loop-i g l =
    Done g.B.Backend.device l.initial.self l.self
    (λ ps. Singly (settings (kept l.initial.self)) (l.initial.budget.limit - l.initial.budget.fruitless) l.i None ps
    × (length (back ps) ≡ l.i) × (l.back ≡ filled (back ps) l.initial.back))
    l.initial.budget.fruitless l.budget.fruitless
    × (l.budget.fruitless ≤ l.budget.limit)
    × (l.budget.limit ≡ l.initial.budget.limit)
