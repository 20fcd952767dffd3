-- One device standing for another: what is done with the one is done with the other.
use Rattle.std.specs.Prelude.{◌≡◌, ℕ, ◌<◌, List, [], ◌∷◌}
use Rattle.backends.specs.Device.{Device, Runs, reads, moves, writes}
use Rattle.backends.specs.declared.access.Access.{Access}

-- the device with its offsets above 7, which are no access
abbrev pub whole : {S : Type 0} → Device S → Device S
whole d = record {
  reader = record { gives = λ s k. reads d s k; next = λ s k. moves d s k };
  write = λ s k v. writes d s k v;
}

-- each offset is one of which P holds
abbrev pub Within : (ℕ → Type 0) → List Access → Type 0
Within P [] = Unit {0}
Within P (a ∷ xs) = P a.offset × Within P xs

-- these accesses lead d from s to a state that is seen as t
abbrev pub Led : {M S : Type 0} → Device S → (S → M) → List Access → S → M → Type 0
Led {M} {S} d seen xs s t = (u : S) × Runs d xs s u × (t ≡ seen u)

-- e, which sees the state s of d as `seen s`, gives the bytes of d and moves as d does: for every
-- run of accesses at any offsets, and for every run at the registers 0 to 7
pub record ActsAs {M S : Type 0} (e : Device M) (d : Device S) (seen : S → M) (s : S) : Type 0 where
  pub every : (xs : List Access) (t : M) → Runs (whole e) xs (seen s) t → Led (whole d) seen xs s t
  pub registers : (xs : List Access) (t : M) → Within (λ k. k < 8) xs → Runs e xs (seen s) t → Led d seen xs s t
