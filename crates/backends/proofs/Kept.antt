-- A table that is given one access more holds one more.
use Rattle.std.proofs.Common.{◌≡◌, ℕ, ◌+◌, ◌<◌, ◌≤◌, min, List, [], ◌∷◌, ◌++◌, length, take, sym, ap, ◌∙◌, ⊎_elim, arith, length-set}
use Rattle.std.proofs.lemmas.List.{take_more_set, take_all, take-append-le, length_push}
use Rattle.std.proofs.lemmas.Bool.{cases_lt, lt-ltb, le-ltb}
use Rattle.std.proofs.lemmas.Bool.Decides.{nat_tests}
use Rattle.backends.specs.declared.access.Access.{Access}
use Rattle.backends.specs.declared.access_log.AccessTable.{AccessTable}
use Rattle.backends.specs.Log.{noted, Holds}

module _ (room : ℕ) (fits : room ≤ 18446744073709551615) (t : AccessTable room) (a : Access) (xs : List Access) (h : Holds room t xs) where
  -- there is room: the access goes behind those that the table keeps
  below : length xs < room → Holds room (noted room t a) (xs ++ a ∷ [])
  below l =
      let c : t.count ≡ length xs = omega (arith, h.counted) in
      let p = length_push xs a in
      let m : min room (length xs) ≡ length xs = omega arith in
      let q = take_more_set t.entries (length xs) a (omega (arith, h.size)) in
      let u : take (length xs) t.entries ≡ xs = ap (λ n. take n t.entries) (sym m) ∙ h.kept ∙ take_all room xs (omega arith) in
      let w = take_all room (xs ++ a ∷ []) (omega arith) in
      let m' : min room (length (xs ++ a ∷ [])) ≡ length xs + 1 = omega arith in
      simp (c, lt-ltb (length xs) room l, lt-ltb (length xs) 18446744073709551615 (omega arith))
      (record { size = length-set t.entries (length xs) a ∙ h.size; counted = omega arith; kept = simp (m', w, q, u) })

  -- the table is full: it keeps what it has
  above : room ≤ length xs → Holds room (noted room t a) (xs ++ a ∷ [])
  above l =
      let p = length_push xs a in
      let m : min room (length xs) ≡ room = omega arith in
      let m' : min room (length (xs ++ a ∷ [])) ≡ room = omega arith in
      let w = take-append-le room xs (a ∷ []) l in
      simp (le-ltb t.count room (omega (arith, h.counted)))
      (record { size = h.size; counted = grind (arith, nat_tests, h.counted); kept = simp (m', w) (ap (λ n. take n t.entries) (sym m) ∙ h.kept) })

  pub noted_holds : Holds room (noted room t a) (xs ++ a ∷ [])
  noted_holds = ⊎_elim below above (cases_lt (length xs) room)
