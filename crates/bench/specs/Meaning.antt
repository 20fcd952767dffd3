-- What the state of a simulated chip means.
use Rattle.std.specs.Prelude.{ℕ, ◌-◌, List, ◌++◌, length, take}
use Rattle.backends.specs.declared.character.Character.{Character}
use Rattle.backends.specs.Chip.{ChipState, Receiver as RulesReceiver, Transmitter as RulesTransmitter, Setup}
use Rattle.bench.specs.declared.receiver.Receiver.{Receiver}
use Rattle.bench.specs.declared.transmitter.Transmitter.{Transmitter}
use Rattle.bench.specs.declared.settings.Settings.{Settings}
use Rattle.bench.specs.declared.chip_core.Core.{Core}
use Rattle.bench.specs.Settings.{mode}

-- a receiver to which these characters came
abbrev pub receiver_of : List Character → Receiver → RulesReceiver
receiver_of came r = record { waiting = r.queue; arrived = came; counts = r.counts; seen = r.seen }

-- a transmitter from which these bytes have left
abbrev pub transmitter_of : List ℕ → Transmitter → RulesTransmitter
transmitter_of gone t = record { given = gone ++ t.held; held = length t.held; turning = t.turning }

abbrev pub setup_of : Settings → Setup
setup_of g = record { lcr = g.lcr; mcr = g.mcr; dll = g.dll; dlm = g.dlm; fifos = mode g.fifos }

-- a chip to which these characters came, and from which these bytes have left
abbrev pub chip_of : List Character → List ℕ → Core → ChipState
chip_of came gone s = record { receiver = receiver_of came s.receiver; transmitter = transmitter_of gone s.transmitter; setup = setup_of s.settings }

-- the bytes that have left: those given but for the held ones
abbrev pub left : RulesTransmitter → List ℕ
left t = take (length t.given - t.held) t.given
