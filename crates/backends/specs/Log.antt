-- The table of a recorder: the first accesses, as many as there is room for, and a count that stays at the largest 64-bit number.
use Rattle.std.specs.Prelude.{◌≡◌, ℕ, ◌+◌, min, cond, List, length, take, nat_lt, slice_set}
use Rattle.backends.specs.declared.access.Access.{Access}
use Rattle.backends.specs.declared.access_log.AccessTable.{AccessTable}

-- one access more
abbrev pub noted : (room : ℕ) → AccessTable room → Access → AccessTable room
noted room t a = record {
  entries = cond (nat_lt t.count room) (slice_set t.entries t.count a) t.entries;
  count = cond (nat_lt t.count 18446744073709551615) (t.count + 1) t.count;
}

-- the table was given these accesses since its making, or since it was last cleared
pub record Holds (room : ℕ) (t : AccessTable room) (xs : List Access) : Type 0 where
  pub size : length t.entries ≡ room
  pub counted : t.count ≡ min (length xs) 18446744073709551615
  pub kept : take (min room (length xs)) t.entries ≡ take room xs
