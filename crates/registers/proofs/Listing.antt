-- The list of divisors, held against the divisors of 115,200 by one computed test.
use Rattle.std.proofs.Common.{◌≡◌, ℕ, zero, suc, ◌*◌, ◌/◌, ◌%◌, ◌<◌, Bool, true, false, cond, ◌&&◌, ◌||◌, eqb, ltb, leb, List, [], ◌∷◌, sym, refl, ap, ◌∙◌, subst, ⊎_elim, mul_comm, arith, rules}
use native.Mathlib.Nat.{div-eq_of_eq-mul_right}
use Rattle.std.proofs.lemmas.Nat.{div-add-mod', mul-le}
use Rattle.std.proofs.lemmas.Bool.{and_parts, or_cases, cond-true, cases_eq, cases_lt, eqb-true, eq-eqb, leb-true, ltb-true}
use Rattle.registers.specs.declared.divisors.Divisor.{Divisor}
use Rattle.registers.specs.declared.divisors.Divisor.TheVariants.{Divisor1, Divisor2, Divisor3, Divisor4, Divisor5, Divisor6, Divisor8, Divisor9, Divisor10, Divisor12, Divisor15, Divisor16, Divisor18, Divisor20, Divisor24, Divisor25, Divisor30, Divisor32, Divisor36, Divisor40, Divisor45, Divisor48, Divisor50, Divisor60, Divisor64, Divisor72, Divisor75, Divisor80, Divisor90, Divisor96, Divisor100, Divisor120, Divisor128, Divisor144, Divisor150, Divisor160, Divisor180, Divisor192, Divisor200, Divisor225, Divisor240, Divisor256, Divisor288, Divisor300, Divisor320, Divisor360, Divisor384, Divisor400, Divisor450, Divisor480, Divisor512, Divisor576, Divisor600, Divisor640, Divisor720, Divisor768, Divisor800, Divisor900, Divisor960, Divisor1152, Divisor1200, Divisor1280, Divisor1440, Divisor1536, Divisor1600, Divisor1800, Divisor1920, Divisor2304, Divisor2400, Divisor2560, Divisor2880, Divisor3200, Divisor3600, Divisor3840, Divisor4608, Divisor4800, Divisor5760, Divisor6400, Divisor7200, Divisor7680, Divisor9600, Divisor11520, Divisor12800, Divisor14400, Divisor19200, Divisor23040, Divisor28800, Divisor38400, Divisor57600}
use Rattle.registers.specs.Divisors.{divisor_value, DividesClock, Listed}

names : List Divisor
names =
    Divisor1 ∷ Divisor2 ∷ Divisor3 ∷ Divisor4 ∷ Divisor5 ∷ Divisor6 ∷ Divisor8 ∷ Divisor9 ∷ Divisor10 ∷ Divisor12 ∷ Divisor15 ∷ Divisor16 ∷
    Divisor18 ∷ Divisor20 ∷ Divisor24 ∷ Divisor25 ∷ Divisor30 ∷ Divisor32 ∷ Divisor36 ∷ Divisor40 ∷ Divisor45 ∷ Divisor48 ∷ Divisor50 ∷ Divisor60 ∷
    Divisor64 ∷ Divisor72 ∷ Divisor75 ∷ Divisor80 ∷ Divisor90 ∷ Divisor96 ∷ Divisor100 ∷ Divisor120 ∷ Divisor128 ∷ Divisor144 ∷ Divisor150 ∷
    Divisor160 ∷ Divisor180 ∷ Divisor192 ∷ Divisor200 ∷ Divisor225 ∷ Divisor240 ∷ Divisor256 ∷ Divisor288 ∷ Divisor300 ∷ Divisor320 ∷ Divisor360 ∷
    Divisor384 ∷ Divisor400 ∷ Divisor450 ∷ Divisor480 ∷ Divisor512 ∷ Divisor576 ∷ Divisor600 ∷ Divisor640 ∷ Divisor720 ∷ Divisor768 ∷ Divisor800 ∷
    Divisor900 ∷ Divisor960 ∷ Divisor1152 ∷ Divisor1200 ∷ Divisor1280 ∷ Divisor1440 ∷ Divisor1536 ∷ Divisor1600 ∷ Divisor1800 ∷ Divisor1920 ∷
    Divisor2304 ∷ Divisor2400 ∷ Divisor2560 ∷ Divisor2880 ∷ Divisor3200 ∷ Divisor3600 ∷ Divisor3840 ∷ Divisor4608 ∷ Divisor4800 ∷ Divisor5760 ∷
    Divisor6400 ∷ Divisor7200 ∷ Divisor7680 ∷ Divisor9600 ∷ Divisor11520 ∷ Divisor12800 ∷ Divisor14400 ∷ Divisor19200 ∷ Divisor23040 ∷ Divisor28800 ∷
    Divisor38400 ∷ Divisor57600 ∷ []

-- the number d has a name among these
found : ℕ → List Divisor → Bool
found d [] = false
found d (x ∷ xs) = eqb (divisor_value x) d || found d xs

found_listed : (d : ℕ) (xs : List Divisor) → found d xs ≡ true → Listed d
unfolding found
found_listed d [] e = let z : ◌≡◌ {A = ℕ} 0 1 = cc in absurd (omega arith)
found_listed d (x ∷ xs) e =
    ⊎_elim (λ here. (x, eqb-true (divisor_value x) d here)) (λ later. found_listed d xs later) (or_cases (eqb (divisor_value x) d) (found d xs) e)

-- a divisor k has a name, and so has 115,200 / k, unless it is too large
both_found : ℕ → Bool
both_found k = found k names && (ltb 65535 (115200 / k) || found (115200 / k) names)

paired : ℕ → Bool
paired k = cond (eqb (115200 % k) 0) (both_found k) true

-- f holds of each number below n
below : (ℕ → Bool) → ℕ → Bool
below f zero = true
below f (suc n) = f n && below f n

each : (f : ℕ → Bool) (n : ℕ) → below f n ≡ true → (v : ℕ) → v < n → f v ≡ true
unfolding below
each f zero e v h = absurd (omega arith)
each f (suc n) e v h =
    let p = and_parts (f n) (below f n) e in
    ⊎_elim (λ z. subst (λ m. f m ≡ true) (sym z) p.0) (λ z. each f n p.1 v (omega arith)) (cases_eq v n)

-- of two factors of 115,200 one is below 340: the test there reaches all
all_paired : below paired 340 ≡ true
unfolding below paired both_found found names
all_paired = refl

at_factor : (k : ℕ) → k < 340 → 115200 % k ≡ 0 → both_found k ≡ true
unfolding paired
at_factor k h e = sym (cond-true (eqb (115200 % k) 0) (both_found k) true (eq-eqb (115200 % k) 0 e)) ∙ each paired 340 all_paired k h

-- a factor leaves no remainder
no_remainder : (k q : ℕ) → 0 < k → q * k ≡ 115200 → 115200 % k ≡ 0
no_remainder k q h e =
    let f : 115200 / k ≡ q = div-eq_of_eq-mul_right h (sym e ∙ mul_comm q k) in
    omega (arith, div-add-mod' 115200 k, ap (λ n. n * k) f, e)

pub all_listed : (d : ℕ) → DividesClock d → Listed d
unfolding both_found
all_listed d h =
    ⊎_elim
    (λ small. found_listed d names (and_parts _ _ (at_factor d small (no_remainder d h.rate h.least h.equation))).0)
    (λ large.
    let few : h.rate < 340 = ⊎_elim (λ l. l) (λ g. absurd (omega (arith, h.equation, mul-le 340 340 h.rate d g large))) (cases_lt h.rate 340) in
    let some : 0 < h.rate = ⊎_elim (λ l. l) (λ g. absurd (omega (arith, h.equation, mul-le h.rate d 0 d g (omega arith)))) (cases_lt 0 h.rate) in
    let other : 115200 / h.rate ≡ d = div-eq_of_eq-mul_right some (sym h.equation) in
    let e = (and_parts (found h.rate names) (ltb 65535 (115200 / h.rate) || found (115200 / h.rate) names) (at_factor h.rate few (no_remainder h.rate d some (mul_comm d h.rate ∙ h.equation)))).1 in
    ⊎_elim (λ l. absurd (omega (arith, ltb-true 65535 (115200 / h.rate) l, other, h.most))) (λ f. found_listed d names (subst (λ n. found n names ≡ true) other f)) (or_cases (ltb 65535 (115200 / h.rate)) (found (115200 / h.rate) names) e))
    (cases_lt d 340)

-- a name's number leaves no remainder, and fits two bytes
right : ℕ → Bool
right n = eqb (115200 % n) 0 && (leb 1 n && leb n 65535)

name_right : (x : Divisor) → right (divisor_value x) ≡ true
unfolding right
name_right x = search rules

right_divides : (n : ℕ) → right n ≡ true → DividesClock n
unfolding right
right_divides n e =
    let p = and_parts (eqb (115200 % n) 0) _ e in
    let q = and_parts (leb 1 n) (leb n 65535) p.1 in
    record {
      rate = 115200 / n;
      equation = omega (arith, div-add-mod' 115200 n, eqb-true (115200 % n) 0 p.0);
      least = leb-true 1 n q.0;
      most = leb-true n 65535 q.1;
    }

pub name_divides : (x : Divisor) → DividesClock (divisor_value x)
name_divides x = right_divides (divisor_value x) (name_right x)
