-- What the driver keeps besides its backend, and how its calls end.
use Rattle.std.specs.Prelude.{ℕ, Bool, List, [], ◌∷◌, Some, None, Ok, Err, Option, Result}
use Rattle.registers.specs.declared.config.Config.{Config}
use Rattle.registers.specs.Refusal.{Refusal}
use Rattle.driver.specs.declared.uart.Uart16550.{Uart16550}

-- the configuration, whether FIFOs are used, and the saved status bits
pub record Kept : Type 0 where
  pub config : Config
  pub fifo : Bool
  pub lsr : ℕ
  pub msr : ℕ

abbrev pub kept : {B : Type 0} → Uart16550 B → Kept
kept u = record { config = u.config; fifo = u.fifo_enabled; lsr = u.lsr_saved; msr = u.msr_saved }

abbrev pub with_config : Kept → Config → Kept
with_config k c = record { config = c; fifo = k.fifo; lsr = k.lsr; msr = k.msr }

abbrev pub with_fifo : Kept → Bool → Kept
with_fifo k on = record { config = k.config; fifo = on; lsr = k.lsr; msr = k.msr }

abbrev pub with_saved : Kept → ℕ → ℕ → Kept
with_saved k l m = record { config = k.config; fifo = k.fifo; lsr = l; msr = m }

-- the refusal in an answer, where it is one
abbrev pub verdict : {T E : Type 0} → (E → Refusal) → Result T E → Option Refusal
verdict f (Ok x) = None
verdict f (Err e) = Some (f e)

-- the byte in an answer, where it is one
abbrev pub got_by : {E : Type 0} → Result ℕ E → List ℕ
got_by (Ok b) = b ∷ []
got_by (Err e) = []
