-- What the program shows: a default init with budget 0 on a script, and the accesses that the recorder holds.
use Rattle.std.specs.Prelude.{ℕ, true, List, Result}
use Rattle.registers.specs.declared.error.InitError.{InitError}
use Rattle.registers.specs.Config.{default}
use Rattle.registers.specs.Refusal.{init_refusal}
use Rattle.backends.specs.declared.access.Access.{Access}
use Rattle.backends.specs.declared.recorder.Recording.{Recording}
use Rattle.backends.specs.Device.{Runs}
use Rattle.backends.specs.Log.{Holds}
use Rattle.backends.specs.Script.{script}
use Rattle.driver.specs.declared.budget.Waited.{Waited}
use Rattle.driver.specs.declared.uart.Uart16550.{Uart16550}
use Rattle.driver.specs.Kept.{Kept, kept, verdict}
use Rattle.driver.specs.Traces.{Initialised}

-- what a new driver keeps
abbrev pub fresh : Kept
fresh = record { config = default; fifo = true; lsr = 0; msr = 0 }

-- the recorder holds the accesses of an init that a script of these bytes answered
pub record PlayedOn (bytes : List ℕ) (u : Uart16550 (Recording (List ℕ) 256)) (a : Waited (Result (Unit {0}) InitError)) : Type 0 where
  pub accesses : List Access
  pub ran : Runs script accesses bytes u.backend.inner
  pub init : Initialised default 0 fresh (verdict init_refusal a.result) a.fruitless (kept u) accesses
  pub held : Holds 256 u.backend.log accesses
