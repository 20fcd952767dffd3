-- A device by what its state fixes, and the runs of accesses that it allows.
use Rattle.std.specs.Prelude.{◌≡◌, ℕ, cond, List, [], ◌∷◌, nat_lt}
use Rattle.backends.specs.declared.access.Access.{Access}
use Rattle.backends.specs.declared.access.Kind.{Kind}
use Rattle.backends.specs.declared.access.Kind.TheVariants.{Read, Write}

-- the reading half: the byte that a register gives, and the state after the read
pub record Reader (S : Type 0) : Type 0 where
  pub gives : S → ℕ → ℕ
  pub next : S → ℕ → S

-- a device: its reading half, and the state after a write of a byte to a register
pub record Device (S : Type 0) : Type 0 where
  pub reader : Reader S
  pub write : S → ℕ → ℕ → S

-- registers stand at offsets 0 to 7: above, a read gives 0xFF and no access moves the state
abbrev pub reads : {S : Type 0} → Device S → S → ℕ → ℕ
reads d s k = cond (nat_lt k 8) (d.reader.gives s k) 0xFF

abbrev pub moves : {S : Type 0} → Device S → S → ℕ → S
moves d s k = cond (nat_lt k 8) (d.reader.next s k) s

abbrev pub writes : {S : Type 0} → Device S → S → ℕ → ℕ → S
writes d s k v = cond (nat_lt k 8) (d.write s k v) s

-- a read of the register k that gave the byte v
abbrev pub rd : ℕ → ℕ → Access
rd k v = record { kind = Read; offset = k; value = v }

-- a write of the byte v to the register k
abbrev pub wr : ℕ → ℕ → Access
wr k v = record { kind = Write; offset = k; value = v }

-- the access is one that the device allows in this state: a read's byte is the one it gives
abbrev pub Allowed : {S : Type 0} → Device S → S → Kind → ℕ → ℕ → Type 0
Allowed d s Read k v = v ≡ d.reader.gives s k
Allowed d s Write k v = Unit {0}

-- the state after the access
abbrev pub after : {S : Type 0} → Device S → S → Kind → ℕ → ℕ → S
after d s Read k v = d.reader.next s k
after d s Write k v = d.write s k v

-- these accesses, in this order, lead from the state s to the state t
abbrev pub Runs : {S : Type 0} → Device S → List Access → S → S → Type 0
Runs d [] s t = s ≡ t
Runs d (a ∷ xs) s t = Allowed d s a.kind a.offset a.value × Runs d xs (after d s a.kind a.offset a.value) t
