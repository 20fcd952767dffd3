-- The tape: which entry arrives, and when.
use Rattle.std.specs.Prelude.{◌≡◌, ℕ, ◌+◌, Bool, false, cond, ◌&&◌, List, [], ◌∷◌, ◌++◌, length, map, nat_le, nat_lt}
use Rattle.backends.specs.declared.character.Character.{Character}
use Rattle.bench.specs.declared.tape.TapeEntry.{TapeEntry}

pub record Tape : Type 0 where
  -- the entries that have arrived, and those behind them
  pub came : List TapeEntry
  pub coming : List TapeEntry
  -- how many accesses have passed since the last one arrived: at most 255
  pub since : ℕ

-- nothing has arrived
abbrev pub unplayed : List TapeEntry → Tape
unplayed es = record { came = []; coming = es; since = 0 }

-- one access more has passed
abbrev pub older : Tape → Tape
older t = record t { since = cond (nat_lt t.since 255) (t.since + 1) t.since }

-- the first of these entries has a gap of at most n
abbrev pub due : ℕ → List TapeEntry → Bool
due n [] = false
due n (e ∷ es) = nat_le e.gap n

-- there is a next entry, its gap is over, and it is in use: 65,535 are
abbrev pub over : Tape → Bool
over t = nat_lt (length t.came) 65535 && due t.since t.coming

-- e arrives, and es stand behind it
abbrev pub advanced : TapeEntry → List TapeEntry → Tape → Tape
advanced e es t = record { came = t.came ++ e ∷ []; coming = es; since = 0 }

-- the first of these entries arrives, with this character, and leaves the tape u
abbrev pub Advances : List TapeEntry → Tape → Character → Tape → Type 0
Advances [] t c u = u ≡ t
Advances (e ∷ es) t c u = (c ≡ e.character) × (u ≡ advanced e es t)

-- the characters that have come, in their order
abbrev pub characters : Tape → List Character
characters t = map (λ e. e.character) t.came
