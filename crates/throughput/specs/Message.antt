-- The message that every chip is given, place by place.
use Rattle.std.specs.Prelude.{ℕ, ◌%◌, cond, ◌==◌}
use Rattle.backends.specs.Rules.{unmarked}
use Rattle.bench.specs.declared.tape.TapeEntry.{TapeEntry}
use Rattle.throughput.specs.declared.message.Arrival.{Arrival}
use Rattle.throughput.specs.declared.message.Arrival.TheVariants.{Steady, Bursts}

-- the byte at this place
abbrev pub byte_of : ℕ → ℕ
byte_of k = k % 251

-- the gap before this place, but for the first
abbrev pub later_gap : Arrival → ℕ → ℕ
later_gap Steady k = 2
later_gap Bursts k = cond (k % 16 == 0) 32 0

-- the gap before this place
abbrev pub gap_of : Arrival → ℕ → ℕ
gap_of a k = cond (k == 0) 23 (later_gap a k)

-- the entry at this place of a tape
abbrev pub entry_of : Arrival → ℕ → TapeEntry
entry_of a k = record { character = unmarked (byte_of k); gap = gap_of a k }
