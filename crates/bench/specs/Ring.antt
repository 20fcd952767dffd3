-- A queue in a ring of places.
use Rattle.std.specs.Prelude.{ℕ, List, ◌++◌, take, drop}

-- what stands in the n places from this one on; behind the last place comes the first
abbrev pub window : {A : Type 0} → ℕ → ℕ → List A → List A
window from n cells = take n (drop from cells ++ take from cells)
