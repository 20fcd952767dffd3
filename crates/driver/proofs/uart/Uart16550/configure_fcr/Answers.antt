use Rattle.std.proofs.Common.{◌≡◌, ℕ, Bool, false, [], ◌∷◌, Some, None, Option, sym, refl, subst, rules}
use Rattle.registers.specs.declared.fcr.FifoTriggerLevel.{FifoTriggerLevel}
use Rattle.registers.specs.Fifo.{fifo_control}
use Rattle.registers.specs.Flags.{contains}
use Rattle.backends.specs.Device.{rd, wr}
use Rattle.driver.specs.Traces.{FifoSetUp, unwanted, asked}
use Rattle.driver.proofs.uart.Uart16550.configure_fcr.Goals as goal

without : (o : Option FifoTriggerLevel) (b : ℕ) → o ≡ None → b ≡ fifo_control o → FifoSetUp o false (wr 2 b ∷ [])
without o b e f = rw f (subst (λ p. FifoSetUp p false (wr 2 (fifo_control p) ∷ [])) (sym e) unwanted)

with_level : (o : Option FifoTriggerLevel) (b : ℕ) (l : FifoTriggerLevel) (isr : ℕ) (on : Bool) → o ≡ Some l → b ≡ fifo_control o → on ≡ contains isr 0xC0
    → FifoSetUp o on (wr 2 b ∷ rd 2 isr ∷ [])
with_level o b l isr on e f h = rw (f, h) (subst (λ p. FifoSetUp p (contains isr 0xC0) (wr 2 (fifo_control p) ∷ rd 2 isr ∷ [])) (sym e) (asked l isr))

pub returns-in-None : goal.returns-in-None
returns-in-None g c =
    record { accesses = (_, without _ c.fifo_control.result c.in-None.is c.fifo_control.ensures, search rules); keeps = refl }

pub returns-in-Some : goal.returns-in-Some
returns-in-Some g c = record {
  accesses = (_, with_level _ c.fifo_control.result _ c.read.result _ c.in-Some.is c.fifo_control.ensures c.fifo_enabled-self.ensures, search rules);
  keeps = refl;
}
