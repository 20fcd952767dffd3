use Rattle.std.proofs.Common.{◌≡◌, List, length}
use Rattle.driver.specs.Receives.{Try, got, misses, filled, Made}
use Rattle.driver.proofs.uart.Uart16550.receive_bytes.Given as goal

-- each place so far has got a character
abbrev pub invariant-loop-count : goal.invariant-loop-count
invariant-loop-count g l = (ts : List Try)
    × Made g.B.Backend.device l.initial.self l.self ts
    × (misses ts ≡ 0)
    × (length (got ts) ≡ l.count)
    × (l.buffer ≡ filled (got ts) l.initial.buffer)
