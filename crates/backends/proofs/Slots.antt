-- The offset of an address is the register that stands there, if one does.
use Rattle.std.proofs.Common.{◌≡◌, ℕ, ◌+◌, ◌-◌, ◌*◌, ◌/◌, ◌%◌, ◌<◌, ◌≤◌, Some, None, ⊎_elim, div-add-mod', mul-div_cancel, arith}
use native.Mathlib.Nat.{mul-mod_left, add-sub_cancel_left}
use Rattle.std.proofs.lemmas.Bool.{cases_lt, lt-ltb, le-ltb, eq-eqb, ne_eqb}
use Rattle.backends.specs.Place.{register, offset_at, Elsewhere}

-- a register stands at its own address
pub own_slot : (base stride k : ℕ) → 0 < stride → k < 8 → offset_at base stride (register base stride k) ≡ Some k
own_slot base stride k h l =
    let d = add-sub_cancel_left base (k * stride) in
    let b = le-ltb (base + k * stride) base (omega arith) in
    simp (b, d, mul-mod_left k stride, mul-div_cancel k h, lt-ltb k 8 l)

-- where none stands there is no offset
pub no_slot : (base stride a : ℕ) → Elsewhere base stride a → offset_at base stride a ≡ None
no_slot base stride a none =
    ⊎_elim
    (λ (l : a < base). simp (lt-ltb a base l))
    (λ (l : base ≤ a). ⊎_elim
    (λ (z : (a - base) % stride < 1).
    let even : (a - base) % stride ≡ 0 = omega arith in
    let split = div-add-mod' (a - base) stride in
    ⊎_elim
    (λ (q : (a - base) / stride < 8). absurd (none ((a - base) / stride) q (omega arith)))
    (λ (q : 8 ≤ (a - base) / stride). simp (le-ltb a base l, eq-eqb ((a - base) % stride) 0 even, le-ltb ((a - base) / stride) 8 q))
    (cases_lt ((a - base) / stride) 8))
    (λ (z : 1 ≤ (a - base) % stride). simp (le-ltb a base l, ne_eqb ((a - base) % stride) 0 (λ e. omega arith)))
    (cases_lt ((a - base) % stride) 1))
    (cases_lt a base)
