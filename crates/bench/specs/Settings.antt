-- The registers that keep what is written to them.
use Rattle.std.specs.Prelude.{ℕ, Bool, cond, is_some, Some, None, Option}
use Rattle.registers.specs.Flags.{contains, divisor_access, loop_back}
use Rattle.backends.specs.Chip.{absent, off, on}
use Rattle.backends.specs.Chip.{Fifos as Mode}
use Rattle.bench.specs.declared.settings.Fifos.{Fifos}
use Rattle.bench.specs.declared.settings.Fifos.TheVariants.{Absent, Off, On}
use Rattle.bench.specs.declared.settings.Settings.{Settings}

-- the FIFOs as the rules have them
abbrev pub mode : Fifos → Mode
mode Absent = absent
mode Off = off
mode On = on

-- loop mode
abbrev pub loops : Settings → Bool
loops s = contains s.mcr loop_back

-- offsets 0 and 1 reach the divisor's bytes
abbrev pub reaches_divisor : Settings → Bool
reaches_divisor s = contains s.lcr divisor_access

-- a read of the scratch register: 0xFF where there is none
abbrev pub scratch_byte : Option ℕ → ℕ
scratch_byte None = 0xFF
scratch_byte (Some v) = v

abbrev pub with_fifos : Settings → Fifos → Settings
with_fifos s f = record s { fifos = f }

abbrev pub with_ier : Settings → ℕ → Settings
with_ier s v = record s { ier = v }

abbrev pub with_lcr : Settings → ℕ → Settings
with_lcr s v = record s { lcr = v }

abbrev pub with_mcr : Settings → ℕ → Settings
with_mcr s v = record s { mcr = v }

abbrev pub with_dll : Settings → ℕ → Settings
with_dll s v = record s { dll = v }

abbrev pub with_dlm : Settings → ℕ → Settings
with_dlm s v = record s { dlm = v }

-- a write of it, which is lost where there is none
abbrev pub scratch_kept : ℕ → Settings → Settings
scratch_kept v s = record s { scratch = cond (is_some s.scratch) (Some v) s.scratch }
