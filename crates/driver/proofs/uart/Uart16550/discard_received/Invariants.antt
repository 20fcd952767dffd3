use Rattle.std.proofs.Common.{◌≡◌, ℕ, ◌+◌, List, ◌++◌}
use Rattle.backends.specs.declared.access.Access.{Access}
use Rattle.backends.specs.Device.{Runs}
use Rattle.driver.specs.Kept.{kept}
use Rattle.driver.specs.Traces.{Discarded}
use Rattle.driver.proofs.uart.Uart16550.discard_received.Given as goal

-- the accesses so far, before which any further ones would be those of as many characters more
abbrev pub invariant-loop : goal.invariant-loop
invariant-loop g l = (xs : List Access)
    × ((n : ℕ) (zs : List Access) → Discarded n zs → Discarded (n + l.counter) (xs ++ zs))
    × Runs g.B.Backend.device xs l.initial.self.backend l.self.backend
    × (kept l.self ≡ kept l.initial.self)
