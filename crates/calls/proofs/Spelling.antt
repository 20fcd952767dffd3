-- Words of hexadecimal letters, a byte at a time.
use Rattle.std.proofs.Common.{◌≡◌, ℕ, ◌+◌, ◌*◌, ◌<◌, List, [], ◌∷◌, ◌++◌, length, get_or, drop, zero, suc, sym, ap, ◌∙◌, subst, ⊎_elim, arith}
use Rattle.std.proofs.lemmas.List.{length_push, get_or_push, get_or_append_left, get_or-drop, get_or-take}
use Rattle.std.specs.Simd.{first_chunks}
use Rattle.std.proofs.lemmas.Bool.{cases_lt}
use Rattle.calls.specs.Hex.{Writes}

-- the first i pairs of letters write these bytes
abbrev pub Sofar : List ℕ → ℕ → List ℕ → Type 0
Sofar w i bs = (length bs ≡ i) × ((j : ℕ) → j < i → Writes (get_or w (2 * j) 0) (get_or w (2 * j + 1) 0) (get_or bs j 0))

-- the pair of letters at this place of the word writes a byte
abbrev pub At : List ℕ → ℕ → ℕ → Type 0
At w j x = Writes (get_or w (2 * j) 0) (get_or w (2 * j + 1) 0) x

-- each place of one byte more
places_more : (w bs : List ℕ) (i b : ℕ) → Sofar w i bs → At w i b → (j : ℕ) → j < i + 1 → At w j (get_or (bs ++ b ∷ []) j 0)
places_more w bs i b s t j l =
    ⊎_elim
    (λ below. subst (At w j) (sym (get_or_append_left bs (b ∷ []) 0 j (omega (arith, s.0)))) (s.1 j below))
    (λ above. let same : i ≡ j = omega arith in subst (At w j) (sym (get_or_push bs b 0 j (s.0 ∙ same))) (subst (λ k. At w k b) same t))
    (cases_lt j i)

-- one byte more
pub sofar_more : (w bs : List ℕ) (i b : ℕ) → Sofar w i bs → At w i b → Sofar w (i + 1) (bs ++ b ∷ [])
sofar_more w bs i b s t = (length_push bs b ∙ ap (λ n. n + 1) s.0, places_more w bs i b s t)

-- a letter of a pair is that of the word
pair-letter : (n : ℕ) (w : List ℕ) (i k : ℕ) → i < n → k < 2 → get_or (get_or (first_chunks 2 n w) i []) k 0 ≡ get_or w (2 * i + k) 0
pair-letter zero w i k l m = absurd (omega arith)
pair-letter (suc n) w zero k l m = get_or-take 2 w k 0 m ∙ ap (λ j. get_or w j 0) (omega arith)
pair-letter (suc n) w (suc i) k l m = pair-letter n (drop 2 w) i k (omega arith) m ∙ (get_or-drop 2 w (2 * i + k) 0 ∙ ap (λ j. get_or w j 0) (omega arith))

-- what a pair writes, its place of the word writes
pub pair_at : (ps : List (List ℕ)) (w : List ℕ) (n i x : ℕ) → ps ≡ first_chunks 2 n w → i < n → Writes (get_or (get_or ps i []) 0 0) (get_or (get_or ps i []) 1 0) x → At w i x
pair_at ps w n i x e l t =
    let letter : (k : ℕ) → k < 2 → get_or (get_or ps i []) k 0 ≡ get_or w (2 * i + k) 0 = λ k m. ap (λ qs. get_or (get_or qs i []) k 0) e ∙ pair-letter n w i k l m in
    subst (λ h. Writes h (get_or w (2 * i + 1) 0) x) (letter 0 (omega arith) ∙ ap (λ j. get_or w j 0) (omega arith)) (subst (λ k. Writes (get_or (get_or ps i []) 0 0) k x) (letter 1 (omega arith)) t)
