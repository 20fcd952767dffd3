-- A device stands for another where each single access agrees.
use Rattle.std.proofs.Common.{◌≡◌, ℕ, ◌<◌, List, [], ◌∷◌, sym, refl, ◌∙◌, subst, ⊎_elim}
use Rattle.std.proofs.lemmas.Bool.{cases_lt, lt-ltb, le-ltb}
use Rattle.backends.specs.Device.{Device, Runs, Allowed, after}
use Rattle.backends.specs.Alike.{whole, Within, Led, ActsAs}
use Rattle.backends.specs.declared.access.Access.{Access}
use Rattle.backends.specs.declared.access.Kind.{Kind}
use Rattle.backends.specs.declared.access.Kind.TheVariants.{Read, Write}

-- single accesses agree at the offsets P, in the states I, which no access of d leaves
pub record Agree {M S : Type 0} (e : Device M) (d : Device S) (seen : S → M) (I : S → Type 0) (P : ℕ → Type 0) : Type 0 where
  pub gives : (s : S) → I s → (k : ℕ) → P k → e.reader.gives (seen s) k ≡ d.reader.gives s k
  pub next : (s : S) → I s → (k : ℕ) → P k → (e.reader.next (seen s) k ≡ seen (d.reader.next s k)) × I (d.reader.next s k)
  pub write : (s : S) → I s → (k v : ℕ) → P k → (e.write (seen s) k v ≡ seen (d.write s k v)) × I (d.write s k v)

module _ {M S : Type 0} (e : Device M) (d : Device S) (seen : S → M) (I : S → Type 0) where
  module _ (P : ℕ → Type 0) (agree : Agree e d seen I P) where
    -- one access
    one : (s : S) (k : Kind) (o v : ℕ) → I s → P o → Allowed e (seen s) k o v
        → Allowed d s k o v × (after e (seen s) k o v ≡ seen (after d s k o v)) × I (after d s k o v)
    one s Read o v i p h = let n = agree.next s i o p in (h ∙ agree.gives s i o p, n.0, n.1)
    one s Write o v i p h = let n = agree.write s i o v p in (tt, n.0, n.1)

    -- a run of accesses
    run : (xs : List Access) (s : S) (t : M) → I s → Within P xs → Runs e xs (seen s) t → Led d seen xs s t
    run [] s t i p r = (s, refl, sym r)
    run (a ∷ xs) s t i p r =
        let q = one s a.kind a.offset a.value i p.0 r.0 in
        let w = run xs (after d s a.kind a.offset a.value) t q.2 p.1 (subst (λ m. Runs e xs m t) q.1 r.1) in
        (w.0, (q.0, w.1), w.2)

-- where the registers agree, the offsets above them agree too, since they are no access
module _ {M S : Type 0} (e : Device M) (d : Device S) (seen : S → M) (I : S → Type 0) (agree : Agree e d seen I (λ k. k < 8)) where
  widened : Agree (whole e) (whole d) seen I (λ k. Unit {0})
  widened = record {
    gives = λ s i k p.
        ⊎_elim (λ l. simp (lt-ltb k 8 l) (agree.gives s i k l)) (λ l. simp (le-ltb k 8 l)) (cases_lt k 8);
    next = λ s i k p.
        ⊎_elim (λ l. simp (lt-ltb k 8 l) (agree.next s i k l)) (λ l. simp (le-ltb k 8 l) (refl, i)) (cases_lt k 8);
    write = λ s i k v p.
        ⊎_elim (λ l. simp (lt-ltb k 8 l) (agree.write s i k v l)) (λ l. simp (le-ltb k 8 l) (refl, i)) (cases_lt k 8);
  }

  -- every offset is an offset
  any : (xs : List Access) → Within (λ k. Unit {0}) xs
  any [] = tt
  any (a ∷ xs) = (tt, any xs)

  pub alike : (s : S) → I s → ActsAs e d seen s
  alike s i = record {
    every = λ xs t r. run (whole e) (whole d) seen I (λ k. Unit {0}) widened xs s t i (any xs) r;
    registers = λ xs t p r. run e d seen I (λ k. k < 8) agree xs s t i p r;
  }
