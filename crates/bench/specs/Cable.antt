-- A cable that leads the line back to the chip: what it does before an access acts.
use Rattle.std.specs.Prelude.{ℕ, Bool, cond, ◌&&◌, List, [], ◌∷◌, map}
use Rattle.backends.specs.declared.character.Character.{Character}
use Rattle.backends.specs.Rules.{unmarked}
use Rattle.bench.specs.declared.cable.Cable.{Cable}
use Rattle.bench.specs.Core.{accepting, reaching, turned}
use Rattle.bench.specs.Line.{room, written}
use Rattle.bench.specs.Settings.{loops}
use Rattle.bench.specs.State.{State, state}

-- what stands in the store has left, and has arrived without marks
abbrev pub came : Cable → List Character
came j = map unmarked j.line.gone

abbrev pub gone : Cable → List ℕ
gone j = j.line.gone

-- the line has room for a byte, and one more character may be lost
abbrev pub carrying : State Cable → Bool
carrying p = room p.joined.line && accepting p.core

-- the oldest of these held bytes leaves, and arrives
abbrev pub carried : List ℕ → State Cable → State Cable
carried [] p = p
carried (b ∷ bs) p =
    state (record p.core { receiver = reaching p.core (unmarked b); transmitter = record p.core.transmitter { held = bs } })
    (record { line = written p.joined.line b })

-- what happens before an access acts: every access is a beat
abbrev pub ticked : State Cable → State Cable
ticked p =
    cond (loops p.core.settings) (state (turned p.core) p.joined) (cond (carrying p) (carried p.core.transmitter.held p) p)
