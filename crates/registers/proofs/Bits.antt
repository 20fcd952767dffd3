-- What `&`, `|` and `^` do to a single bit, in the word `bit`, by the library's lemmas.
use Rattle.std.proofs.Common.{◌≡◌, ℕ, ◌+◌, ◌/◌, ◌%◌, ◌^◌, ◌≤◌, min, max, cond, eqb, ap, ◌∙◌, arith}
use lib.Bits.{bit_and, bit_or, bit_xor}
use Rattle.std.proofs.lemmas.Nat.{shr-shr}
use Rattle.std.proofs.lemmas.Nat.Bits.{bit_at_and, bit_at_or, bit_at_xor, bit_at-lt}
use Rattle.std.proofs.lemmas.Bool.Decides.{nat_tests}
use Rattle.registers.specs.Fields.{bit}
use Rattle.registers.specs.Modem.{changed}

pub bit_of_or : (k a b : ℕ) → bit k (bit_or a b) ≡ max (bit k a) (bit k b)
bit_of_or k a b = bit_at_or a b k

pub bit_of_and : (k a b : ℕ) → bit k (bit_and a b) ≡ min (bit k a) (bit k b)
bit_of_and k a b = bit_at_and a b k

pub bit_le : (k v : ℕ) → bit k v ≤ 1
bit_le k v = omega (arith, bit_at-lt v k)

differs : (x y : ℕ) → x ≤ 1 → y ≤ 1 → (x + y) % 2 ≡ cond (eqb x y) 0 1
differs x y hx hy = grind (arith, nat_tests)

pub bit_of_xor : (k a b : ℕ) → bit k (bit_xor a b) ≡ changed k a b
bit_of_xor k a b = bit_at_xor a b k ∙ differs (bit k a) (bit k b) (bit_le k a) (bit_le k b)

-- a shift moves the bits down
pub bit_of_shr : (j k v : ℕ) → bit k (v / 2 ^ j) ≡ bit (j + k) v
bit_of_shr j k v = ap (λ n. n % 2) (shr-shr v j k)
