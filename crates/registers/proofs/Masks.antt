-- Masks and shifts: to clear a field and put a value there sets it.
use Rattle.std.proofs.Common.{◌≡◌, ℕ, ◌+◌, ◌-◌, ◌*◌, ◌/◌, ◌%◌, ◌^◌, ◌<◌, ◌≤◌, sym, ap, ◌∙◌, subst, mod-eq_of_lt, mul_assoc, add_comm, add-mul, arith}
use lib.Bits.{bit_and, bit_or, or_zero_l, or_zero_r, and_zero_r}
use Rattle.std.proofs.Math.Nat.{mod-mod, mul-mod_left, div-eq_of_lt}
use Rattle.std.proofs.lemmas.Nat.{pow-add, pow_pos, and_mask, and_shr, or_shr, and_mod, or_mod, shl-shr, shr-shr, shr_high, shr_below, shl_below, mod_low}
use Rattle.registers.specs.Fields.{FieldSet}

less_one : (n m : ℕ) → 0 < n → (n - 1) * m + m ≡ n * m
less_one n m h =
    let e : n - 1 + 1 ≡ n = omega arith in
    omega (arith, add-mul (n - 1) 1 m, ap (λ k. k * m) e)

-- the mask of all but the w bits at p: ones above and ones below
all_but : (p w : ℕ) → p + w ≤ 8 → 255 - (2 ^ w - 1) * 2 ^ p ≡ (2 ^ (8 - (p + w)) - 1) * 2 ^ w * 2 ^ p + (2 ^ p - 1)
all_but p w h =
    let above = 2 ^ (8 - (p + w)) in
    let eight : 8 - (p + w) + (w + p) ≡ 8 = omega arith in
    let all : above * (2 ^ w * 2 ^ p) ≡ 256 =
    ap (λ n. above * n) (sym (pow-add 2 w p)) ∙ sym (pow-add 2 (8 - (p + w)) (w + p)) ∙ ap (λ n. 2 ^ n) eight in
    omega (arith, all, mul_assoc (above - 1) (2 ^ w) (2 ^ p), less_one (2 ^ w) (2 ^ p) (pow_pos w), less_one above (2 ^ w * 2 ^ p) (pow_pos (8 - (p + w))), pow_pos p)

-- clearing a field and putting a value there sets it
pub mask_sets : (p w x v : ℕ) → p + w ≤ 8 → v < 2 ^ 8 → x < 2 ^ w → FieldSet p w x v (bit_or (bit_and v (255 - (2 ^ w - 1) * 2 ^ p)) (x * 2 ^ p))
mask_sets p w x v h hv hx =
    let mask = 255 - (2 ^ w - 1) * 2 ^ p in
    let ones = 2 ^ (8 - (p + w)) - 1 in
    let small : 2 ^ p - 1 < 2 ^ p = omega (arith, pow_pos p) in
    let low : mask % 2 ^ p ≡ 2 ^ p - 1 = ap (λ n. n % 2 ^ p) (all_but p w h) ∙ mod_low (ones * 2 ^ w) p (2 ^ p - 1) small in
    let rest : mask / 2 ^ p ≡ ones * 2 ^ w = ap (λ n. n / 2 ^ p) (all_but p w h) ∙ shr_high (ones * 2 ^ w) p (2 ^ p - 1) small in
    let high : mask / 2 ^ (p + w) ≡ ones = sym (shr-shr mask p w) ∙ ap (λ n. n / 2 ^ w) rest ∙ shl-shr ones w in
    let eight : 8 ≡ 8 - (p + w) + (p + w) = omega arith in
    let top : v / 2 ^ (p + w) < 2 ^ (8 - (p + w)) = shr_below v (8 - (p + w)) (p + w) (subst (λ n. v < 2 ^ n) eight hv) in
    let past : x * 2 ^ p / 2 ^ (p + w) ≡ 0 = div-eq_of_lt (subst (λ n. x * 2 ^ p < 2 ^ n) (add_comm w p) (shl_below x w p hx)) in
    record {
      value = simp (or_shr, and_shr, or_mod, and_mod, rest, mul-mod_left, and_zero_r, or_zero_l, shl-shr) (mod-eq_of_lt hx);
      below = simp (or_mod, and_mod, low, and_mask, mod-mod, mul-mod_left, or_zero_r);
      above = simp (or_shr, and_shr, high, and_mask, past, or_zero_r) (mod-eq_of_lt top);
    }
