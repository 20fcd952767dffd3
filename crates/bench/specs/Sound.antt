-- What stays true of a chip: no more marks are counted than characters came with one, and no more characters wait than
-- there is room for.
use Rattle.std.specs.Prelude.{ℕ, ◌+◌, ◌≤◌, Bool, cond, List, [], ◌∷◌, length}
use Rattle.backends.specs.declared.character.Character.{Character}
use Rattle.backends.specs.declared.character.Counts.{Counts}
use Rattle.backends.specs.Chip.{capacity}
use Rattle.bench.specs.declared.chip_core.Core.{Core}
use Rattle.bench.specs.Settings.{mode}

abbrev pub one : Bool → ℕ
one b = cond b 1 0

-- how many of the characters bear the mark f
abbrev pub marks : (Character → Bool) → List Character → ℕ
marks f [] = 0
marks f (c ∷ cs) = one (f c) + marks f cs

-- how many of those behind the first do: their marks are not counted yet
abbrev pub behind : (Character → Bool) → List Character → ℕ
behind f [] = 0
behind f (c ∷ cs) = marks f cs

-- n marks were counted, these characters wait, and m characters came
abbrev pub Within : (Character → Bool) → ℕ → List Character → ℕ → Type 0
Within f n cs m = n + behind f cs ≤ m

abbrev pub Counted : Counts → List Character → ℕ → Type 0
Counted n cs m = Within (λ c. c.parity) n.parity cs m × Within (λ c. c.framing) n.framing cs m × Within (λ c. c.broken) n.broken cs m

-- no more characters wait than there is room for: without FIFOs at most one
abbrev pub Bounded : Core → Type 0
Bounded s = length s.receiver.queue ≤ capacity (mode s.settings.fifos)

-- m characters came from the line
abbrev pub Sound : ℕ → Core → Type 0
Sound m s = Counted s.receiver.counts s.receiver.queue m × Bounded s
