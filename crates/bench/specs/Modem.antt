-- The modem lines, as the modem status register shows them.
use Rattle.std.specs.Prelude.{ℕ, ◌+◌, ◌*◌, cond, bit_or}
use Rattle.registers.specs.Flags.{contains, loop_back}
use Rattle.registers.specs.Modem.{changed, fell}
use Rattle.bench.specs.Flag.{flagged}
use Rattle.bench.specs.declared.modem.Modem.{Modem}
use Rattle.bench.specs.declared.modem.ModemLines.{ModemLines}

-- clear to send, data set ready, ring and carrier detect, in bits 4 to 7
abbrev pub line_bits : ModemLines → ℕ
line_bits l =
    bit_or (bit_or (bit_or (flagged l.clear_to_send 0x10) (flagged l.data_set_ready 0x20)) (flagged l.ring_indicator 0x40)) (flagged l.carrier_detect 0x80)

-- fixed lines, and no change
abbrev pub still : ModemLines → Modem
still l = record { fixed = line_bits l; changes = 0 }

-- in loop mode the lines are the modem control's outputs
abbrev pub outputs : ℕ → ModemLines
outputs mcr = record {
  clear_to_send = contains mcr 0x02;
  data_set_ready = contains mcr 0x01;
  ring_indicator = contains mcr 0x04;
  carrier_detect = contains mcr 0x08;
}

-- the lines with this modem control, in bits 4 to 7
abbrev pub lines : Modem → ℕ → ℕ
lines m mcr = cond (contains mcr loop_back) (line_bits (outputs mcr)) m.fixed

-- a changed line sets its bit, the ring indicator only as it goes off
abbrev pub line_changes : ℕ → ℕ → ℕ
line_changes old new = changed 4 old new + 2 * changed 5 old new + 4 * fell 6 old new + 8 * changed 7 old new

-- the modem control is written
abbrev pub latched : Modem → ℕ → ℕ → Modem
latched m old new = record m { changes = bit_or m.changes (line_changes (lines m old) (lines m new)) }

-- the modem status is read
abbrev pub shown : Modem → ℕ → ℕ
shown m mcr = bit_or (lines m mcr) m.changes

abbrev pub unchanged : Modem → Modem
unchanged m = record m { changes = 0 }
