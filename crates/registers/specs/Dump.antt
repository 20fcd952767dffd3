-- What the registers of a device held at one time.
use Rattle.std.specs.Prelude.{ℕ, ◌+◌, ◌*◌}
use Rattle.registers.specs.declared.dump.ConfigRegisterDump.{ConfigRegisterDump}

-- the divisor that the two bytes hold
abbrev pub latched : ConfigRegisterDump → ℕ
latched d = d.dlm * 256 + d.dll
