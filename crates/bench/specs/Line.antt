-- The line that takes what leaves.
use Rattle.std.specs.Prelude.{ℕ, min, Bool, List, [], ◌∷◌, ◌++◌, length, nat_lt}

pub record Line : Type 0 where
  -- what left, in its order
  pub gone : List ℕ
  -- how long the store is
  pub space : ℕ

-- nothing has left
abbrev pub empty_line : ℕ → Line
empty_line n = record { gone = []; space = n }

-- one byte more can leave: 65,535 at most
abbrev pub room : Line → Bool
room l = nat_lt (length l.gone) (min l.space 65535)

-- a byte leaves
abbrev pub written : Line → ℕ → Line
written l b = record l { gone = l.gone ++ b ∷ [] }
