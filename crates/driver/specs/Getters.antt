-- Looking at registers, and switching interrupts.
use Rattle.std.specs.Prelude.{◌≡◌, ℕ, cond, List, [], ◌∷◌, Some, None, Option, bit_or}
use Rattle.registers.specs.declared.config.Config.{Config}
use Rattle.registers.specs.declared.dump.ConfigRegisterDump.{ConfigRegisterDump}
use Rattle.registers.specs.Flags.{contains, line_errors, line_changes, divisor_access, data_set_ready, clear_to_send}
use Rattle.registers.specs.Offsets.{at_ier, at_isr, at_lcr, at_mcr, at_lsr, at_msr, at_spr, at_dll, at_dlm}
use Rattle.registers.specs.Refusal.{Refusal, refusal}
use Rattle.backends.specs.declared.access.Access.{Access}
use Rattle.backends.specs.Device.{Device, Runs, rd, wr}
use Rattle.driver.specs.declared.uart.Uart16550.{Uart16550}
use Rattle.driver.specs.Kept.{kept, with_config, with_saved}
use Rattle.driver.specs.Traces.{joined, noting}

-- one read of the register, whose byte is the answer
pub record Looked {S : Type 0} (d : Device S) (old new : Uart16550 S) (at v : ℕ) : Type 0 where
  pub ran : Runs d (rd at v ∷ []) old.backend new.backend
  pub keeps : kept new ≡ kept old

-- one read of the line status; the answer has the saved errors too, and they are forgotten
pub record LineLooked {S : Type 0} (d : Device S) (old new : Uart16550 S) (r : ℕ) : Type 0 where
  pub status : ℕ
  pub ran : Runs d (rd at_lsr status ∷ []) old.backend new.backend
  pub answer : r ≡ bit_or status (joined line_errors old.lsr_saved (status ∷ []))
  pub keeps : kept new ≡ with_saved (kept old) 0 old.msr_saved

-- one read of the modem status; the answer has the saved changes too, and they are forgotten
pub record ModemLooked {S : Type 0} (d : Device S) (old new : Uart16550 S) (r : ℕ) : Type 0 where
  pub status : ℕ
  pub ran : Runs d (rd at_msr status ∷ []) old.backend new.backend
  pub answer : r ≡ bit_or status (joined line_changes old.msr_saved (status ∷ []))
  pub keeps : kept new ≡ with_saved (kept old) old.lsr_saved 0

-- one read of the modem status tells whether the remote is there, and then whether it can receive
pub record Connected {S : Type 0} (d : Device S) (old new : Uart16550 S) (x : Option Refusal) : Type 0 where
  pub status : ℕ
  pub ran : Runs d (rd at_msr status ∷ []) old.backend new.backend
  pub keeps : kept new ≡ noting (kept old) [] (status ∷ [])
  pub answer : x ≡ cond (contains status data_set_ready) (cond (contains status clear_to_send) None (Some (refusal 14 []))) (Some (refusal 13 []))

-- the divisor's bytes are read with divisor access on; the line control is written back as it was found
abbrev pub divisor_look : ℕ → ℕ → ℕ → List Access
divisor_look lcr low high = rd at_lcr lcr ∷ wr at_lcr (bit_or lcr divisor_access) ∷ rd at_dll low ∷ rd at_dlm high ∷ wr at_lcr lcr ∷ []

pub record DivisorLooked {S : Type 0} (d : Device S) (old new : Uart16550 S) (low high : ℕ) : Type 0 where
  pub lcr : ℕ
  pub ran : Runs d (divisor_look lcr low high) old.backend new.backend
  pub keeps : kept new ≡ kept old

abbrev pub with_interrupts : Config → ℕ → Config
with_interrupts c n = record {
  interrupts = n;
  frequency = c.frequency;
  prescaler_division_factor = c.prescaler_division_factor;
  fifo_trigger_level = c.fifo_trigger_level;
  baud_rate = c.baud_rate;
  data_bits = c.data_bits;
  extra_stop_bits = c.extra_stop_bits;
  parity = c.parity;
  check_cts_before_sending = c.check_cts_before_sending;
}

-- the enabled interrupts are read and changed; the configuration keeps what was written, whatever the device makes of it
pub record Switched {S : Type 0} (d : Device S) (old new : Uart16550 S) (change : ℕ → ℕ) : Type 0 where
  pub enabled : ℕ
  pub ran : Runs d (rd at_ier enabled ∷ wr at_ier (change enabled) ∷ []) old.backend new.backend
  pub keeps : kept new ≡ with_config (kept old) (with_interrupts old.config (change enabled))

-- the divisor look-up and then every other register; the status fields have the saved bits too, which stay
pub record Dumped {S : Type 0} (d : Device S) (old new : Uart16550 S) (r : ConfigRegisterDump) : Type 0 where
  pub found : ℕ
  pub line : ℕ
  pub modem : ℕ
  pub ran : Runs d
      (rd at_lcr found ∷ wr at_lcr (bit_or found divisor_access) ∷ rd at_dll r.dll ∷ rd at_dlm r.dlm ∷ wr at_lcr found
      ∷ rd at_ier r.ier ∷ rd at_isr r.isr ∷ rd at_lcr r.lcr ∷ rd at_mcr r.mcr ∷ rd at_lsr line ∷ rd at_msr modem ∷ rd at_spr r.spr ∷ []) old.backend new.backend
  pub keeps : kept new ≡ noting (kept old) (line ∷ []) (modem ∷ [])
  pub line_field : r.lsr ≡ bit_or line (joined line_errors old.lsr_saved (line ∷ []))
  pub modem_field : r.msr ≡ bit_or modem (joined line_changes old.msr_saved (modem ∷ []))
