-- What is done with a recorder is done with the device below it, and is what the recorder holds.
use Rattle.std.proofs.Common.{◌≡◌, ℕ, ◌≤◌, List, [], ◌∷◌, ◌++◌, sym, refl, ap, subst, append_assoc, append-nil}
use Rattle.backends.specs.declared.access.Access.{Access}
use Rattle.backends.specs.declared.access.Kind.{Kind}
use Rattle.backends.specs.declared.access.Kind.TheVariants.{Read, Write}
use Rattle.backends.specs.declared.recorder.Recording.{Recording}
use Rattle.backends.specs.Device.{Device, Runs, Allowed, after, rd, wr}
use Rattle.backends.specs.Log.{Holds, noted}
use Rattle.backends.specs.Recorder.{recorded, Faithful}
use Rattle.backends.proofs.Kept.{noted_holds}

module _ {S : Type 0} (room : ℕ) (fits : room ≤ 18446744073709551615) (d : Device S) where
  -- one access: the device below makes it too, and the table holds one more
  one : (ys : List Access) (r : Recording S room) (k : Kind) (o v : ℕ) → Holds room r.log ys → Allowed (recorded room d) r k o v
      → ((after (recorded room d) r k o v).inner ≡ after d r.inner k o v)
      × Allowed d r.inner k o v
      × Holds room (after (recorded room d) r k o v).log (ys ++ record { kind = k; offset = o; value = v } ∷ [])
  one ys r Read o v h e = (refl, e, subst (λ b. Holds room (noted room r.log (rd o b)) (ys ++ rd o v ∷ [])) e (noted_holds room fits r.log (rd o v) ys h))
  one ys r Write o v h e = (refl, tt, noted_holds room fits r.log (wr o v) ys h)

  -- a recorder that holds ys holds ys and xs after xs were done with it
  pub traced : (ys xs : List Access) (r t : Recording S room) → Holds room r.log ys → Runs (recorded room d) xs r t
      → Runs d xs r.inner t.inner × Holds room t.log (ys ++ xs)
  traced ys [] r t h ran =
      (ap (λ s. s.inner) ran, subst (λ s. Holds room s.log (ys ++ [])) ran (subst (λ l. Holds room r.log l) (sym (append-nil ys)) h))
  traced ys (a ∷ xs) r t h ran =
      let s = one ys r a.kind a.offset a.value h ran.0 in
      let f = traced (ys ++ a ∷ []) xs (after (recorded room d) r a.kind a.offset a.value) t s.2 ran.1 in
      ((s.1, subst (λ u. Runs d xs u t.inner) s.0 f.0), subst (λ l. Holds room t.log l) (append_assoc ys (a ∷ []) xs) f.1)

  -- an empty recorder is faithful
  pub faithful : (r : Recording S room) → Holds room r.log [] → Faithful room d r.inner r
  faithful r h xs t ran = let f = traced [] xs r t h ran in record { below = f.0; holds = f.1 }
