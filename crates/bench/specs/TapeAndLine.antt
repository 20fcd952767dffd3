-- What a tape, a line and a pace do before an access acts.
use Rattle.std.specs.Prelude.{ℕ, Bool, cond, ◌&&◌, List, [], ◌∷◌}
use Rattle.backends.specs.declared.character.Character.{Character}
use Rattle.bench.specs.declared.tape.TapeEntry.{TapeEntry}
use Rattle.bench.specs.declared.tape_and_line.TapeAndLine.{TapeAndLine}
use Rattle.bench.specs.Core.{accepting, reaching, turned, with_receiver, with_transmitter}
use Rattle.bench.specs.Line.{Line, room, written}
use Rattle.bench.specs.Pace.{beats, passed}
use Rattle.bench.specs.Settings.{loops}
use Rattle.bench.specs.State.{State, state}
use Rattle.bench.specs.Tape.{Tape, older, over, advanced, characters}

-- what has come off the tape, and what stands in the store
abbrev pub came : TapeAndLine → List Character
came j = characters j.tape

abbrev pub gone : TapeAndLine → List ℕ
gone j = j.line.gone

abbrev pub with_tape : TapeAndLine → Tape → TapeAndLine
with_tape j t = record j { tape = t }

abbrev pub with_line : TapeAndLine → Line → TapeAndLine
with_line j l = record j { line = l }

-- a character arrives now
abbrev pub arriving : State TapeAndLine → Bool
arriving p = accepting p.core && over p.joined.tape

-- the first of these entries arrives
abbrev pub arrives : List TapeEntry → State TapeAndLine → State TapeAndLine
arrives [] p = p
arrives (e ∷ es) p = state (with_receiver p.core (reaching p.core e.character)) (with_tape p.joined (advanced e es p.joined.tape))

-- these entries arrive, as far as their gaps are over
unfoldable pub fills : List TapeEntry → State TapeAndLine → State TapeAndLine
fills [] p = p
fills (e ∷ es) p = cond (arriving p) (fills es (arrives (e ∷ es) p)) p

-- all arrive whose time has come
abbrev pub filled : State TapeAndLine → State TapeAndLine
filled p = fills p.joined.tape.coming p

-- the oldest of these held bytes leaves
abbrev pub leaves : List ℕ → State TapeAndLine → State TapeAndLine
leaves [] p = p
leaves (b ∷ bs) p =
    state (with_transmitter p.core (record p.core.transmitter { held = bs })) (with_line p.joined (written p.joined.line b))

-- where the line has room, the oldest held byte leaves
abbrev pub leaving : State TapeAndLine → State TapeAndLine
leaving p = cond (room p.joined.line) (leaves p.core.transmitter.held p) p

abbrev pub paced : TapeAndLine → TapeAndLine
paced j = record j { pace = passed j.pace }

-- in loop mode the oldest byte comes round on a beat
abbrev pub passed_looping : State TapeAndLine → State TapeAndLine
passed_looping p = state (cond (beats p.joined.pace) (turned p.core) p.core) (paced p.joined)

-- outside loop mode the oldest held byte leaves on a beat
abbrev pub beaten : State TapeAndLine → State TapeAndLine
beaten p = cond (beats p.joined.pace) (leaving (state p.core (paced p.joined))) (state p.core (paced p.joined))

-- and the access counts for the gaps
abbrev pub aged : State TapeAndLine → State TapeAndLine
aged p = state p.core (with_tape p.joined (older p.joined.tape))

-- what happens before an access acts: outside loop mode what arrives comes last
abbrev pub ticked : State TapeAndLine → State TapeAndLine
ticked p = cond (loops p.core.settings) (passed_looping p) (filled (aged (beaten p)))
