-- Runs of accesses, one after the other.
use Rattle.std.proofs.Common.{◌≡◌, ℕ, List, [], ◌∷◌, ◌++◌, sym, subst}
use Rattle.backends.specs.declared.access.Access.{Access}
use Rattle.backends.specs.Device.{Device, Runs, rd, wr}

module _ {S : Type 0} (d : Device S) where
  -- one run, and then another from where it ended
  pub runs_append : (xs ys : List Access) (s t u : S) → Runs d xs s t → Runs d ys t u → Runs d (xs ++ ys) s u
  runs_append [] ys s t u e q = subst (λ v. Runs d ys v u) (sym e) q
  runs_append (a ∷ xs) ys s t u p q = (p.0, runs_append xs ys _ t u p.1 q)

  -- one read, as a backend's contract has it
  pub runs_read : (k v : ℕ) (s t : S) → v ≡ d.reader.gives s k → t ≡ d.reader.next s k → Runs d (rd k v ∷ []) s t
  runs_read k v s t e f = (e, sym f)

  -- one write
  pub runs_write : (k v : ℕ) (s t : S) → t ≡ d.write s k v → Runs d (wr k v ∷ []) s t
  runs_write k v s t f = (tt, sym f)
