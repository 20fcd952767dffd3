-- The powers of two are the numbers with one bit set: the library has the words, and no lemma that joins them.
use Rattle.std.proofs.Common.{◌≡◌, ℕ, zero, suc, ◌*◌, ◌/◌, ◌%◌, ◌^◌, ◌<◌, sym, ap, ◌∙◌, ⊎_elim, add-zero, one-mul, pow-suc, arith, pow_pos}
use Rattle.std.proofs.lemmas.Bool.{cases_lt}
use lib.Count.{ones, ones_step, ones_cat}
use Rattle.std.specs.Int.{IsPowerOfTwo}

-- a number without a bit is 0
none_set : (d n : ℕ) → n < 2 ^ d → ones n ≡ 0 → n ≡ 0
none_set zero n h e = omega arith
none_set (suc d) n h e =
    let p = pow-suc 2 d in
    let s = ones_step n in
    let r = none_set d (n / 2) (omega arith) (omega arith) in
    omega arith

-- a number with one bit is a power of two
pub one_set : (d n : ℕ) → n < 2 ^ d → ones n ≡ 1 → IsPowerOfTwo n
unfolding ones
one_set zero n h e = let z : n ≡ 0 = omega arith in let s : ones n ≡ 0 = ap ones z in (0, omega arith)
one_set (suc d) n h e =
    let p = pow-suc 2 d in
    let s = ones_step n in
    ⊎_elim
    (λ even. let r = one_set d (n / 2) (omega arith) (omega arith) in (suc r.0, omega (arith, pow-suc 2 r.0, r.1)))
    (λ odd. let r = none_set d (n / 2) (omega arith) (omega arith) in (0, omega arith))
    (cases_lt (n % 2) 1)

-- a power of two has one bit
pub power_ones : (n : ℕ) → IsPowerOfTwo n → ones n ≡ 1
unfolding ones
power_ones n q =
    ap ones (q.1 ∙ sym (add-zero (1 * 2 ^ q.0) ∙ one-mul (2 ^ q.0))) ∙ ones_cat q.0 1 0 (pow_pos q.0)
