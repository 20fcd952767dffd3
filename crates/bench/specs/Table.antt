-- A table with an entry for each register.
use Rattle.std.specs.Prelude.{ℕ, cond, ◌==◌}

-- the entry of the register k, from the entries of 0 to 7
abbrev pub entry_of : {A : Type 0} → ℕ → A → A → A → A → A → A → A → A → A
entry_of k a b c d e f g h =
    cond (k == 0) a (cond (k == 1) b (cond (k == 2) c (cond (k == 3) d (cond (k == 4) e (cond (k == 5) f (cond (k == 6) g h))))))
