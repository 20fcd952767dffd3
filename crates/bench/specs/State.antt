-- A chip and what is joined to it.
use Rattle.std.specs.Prelude.{ℕ, ◌≤◌, List, length}
use Rattle.backends.specs.declared.character.Character.{Character}
use Rattle.backends.specs.Chip.{ChipState}
use Rattle.bench.specs.declared.chip_core.Core.{Core}
use Rattle.bench.specs.Core.{answered, written}
use Rattle.bench.specs.Meaning.{chip_of}
use Rattle.bench.specs.Sound.{Sound}

pub record State (J : Type 0) : Type 0 where
  pub core : Core
  pub joined : J

abbrev pub state : {J : Type 0} → Core → J → State J
state s j = record { core = s; joined = j }

-- the chip is sound, by the characters that have come, and no more than 65,535 have
abbrev pub IsSound : {J : Type 0} → (J → List Character) → State J → Type 0
IsSound came s = Sound (length (came s.joined)) s.core × (length (came s.joined) ≤ 65535)

-- what it means, by the characters that have come and the bytes that have left
abbrev pub meaning_of : {J : Type 0} → (J → List Character) → (J → List ℕ) → State J → ChipState
meaning_of came gone s = chip_of (came s.joined) (gone s.joined) s.core

-- a register is read, and one is written
abbrev pub read : {J : Type 0} → State J → ℕ → State J
read s k = state (answered s.core k) s.joined

abbrev pub write : {J : Type 0} → State J → ℕ → ℕ → State J
write s k v = state (written s.core k v) s.joined
