-- A chip as it is made.
use Rattle.std.specs.Prelude.{◌≡◌, ℕ, Bool, cond, [], Some, None, Option}
use Rattle.backends.specs.declared.character.Counts.{Counts}
use Rattle.bench.specs.declared.chip_core.Core.{Core}
use Rattle.bench.specs.declared.modem.ModemLines.{ModemLines}
use Rattle.bench.specs.declared.settings.Fifos.{Fifos}
use Rattle.bench.specs.declared.settings.Fifos.TheVariants.{Absent, Off}
use Rattle.bench.specs.declared.settings.Settings.{Settings}
use Rattle.bench.specs.Modem.{still}
use Rattle.bench.specs.Sound.{Sound}

abbrev pub no_events : Counts
no_events = record { lost = 0; parity = 0; framing = 0; broken = 0 }

-- FIFOs start off, where there are any
abbrev pub fifos_made : Bool → Fifos
fifos_made present = cond present Off Absent

abbrev pub scratch_made : Bool → Option ℕ
scratch_made present = cond present (Some 0) None

-- all registers are 0
abbrev pub all_zero : Bool → Bool → Settings
all_zero fifos scratch = record { ier = 0; lcr = 0; mcr = 0; dll = 0; dlm = 0; scratch = scratch_made scratch; fifos = fifos_made fifos }

-- nothing waits, nothing is held and nothing turns, and no event has happened
pub record Made (fifos scratch : Bool) (lines : ModemLines) (s : Core) : Type 0 where
  pub waiting : s.receiver.queue ≡ []
  pub counts : s.receiver.counts ≡ no_events
  pub seen : s.receiver.seen ≡ no_events
  pub held : s.transmitter.held ≡ []
  pub turning : s.transmitter.turning ≡ []
  pub settings : s.settings ≡ all_zero fifos scratch
  pub modem : s.modem ≡ still lines
  pub sound : Sound 0 s
