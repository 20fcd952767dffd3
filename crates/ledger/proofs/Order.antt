-- Lists with none or some left out.
use Rattle.std.proofs.Common.{◌≡◌, ℕ, List, [], ◌∷◌, ◌++◌, subst, arith}
use Rattle.ledger.specs.Law.{Within, none, kept, left}

pub within_same : (xs : List ℕ) → Within xs xs
within_same [] = none
within_same (x ∷ xs) = kept (within_same xs)

-- one more at the end of both
pub end_kept : (xs ys : List ℕ) (x : ℕ) → Within xs ys → Within (xs ++ (x ∷ [])) (ys ++ (x ∷ []))
end_kept xs ys x none = kept none
end_kept xs ys x (kept {xs = as'} {ys = bs} h) = kept (end_kept as' bs x h)
end_kept xs ys x (left {ys = bs} h) = left (end_kept xs bs x h)

-- one more at the end of the second: it is left out
pub end_left : (xs ys : List ℕ) (x : ℕ) → Within xs ys → Within xs (ys ++ (x ∷ []))
end_left xs ys x none = left none
end_left xs ys x (kept {xs = as'} {ys = bs} h) = kept (end_left as' bs x h)
end_left xs ys x (left {ys = bs} h) = left (end_left xs bs x h)

none_within : (ys : List ℕ) → Within [] ys
none_within [] = none
none_within (y ∷ ys) = left (none_within ys)

-- the front of the first alone
pub front_within : (xs zs : List ℕ) {all ys : List ℕ} → xs ++ zs ≡ all → Within all ys → Within xs ys
front_within [] zs {ys = ys} e h = none_within ys
front_within (x ∷ xs) zs e none = let z : ◌≡◌ {A = ℕ} 0 1 = cc in absurd (omega arith)
front_within (x ∷ xs) zs e (kept {x = y} {xs = as'} {ys = bs} h) =
    let p : x ≡ y = cc in
    let q : xs ++ zs ≡ as' = cc in
    subst (λ w. Within (x ∷ xs) (w ∷ bs)) p (kept (front_within xs zs q h))
front_within (x ∷ xs) zs e (left h) = left (front_within (x ∷ xs) zs e h)
