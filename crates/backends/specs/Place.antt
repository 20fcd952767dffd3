-- Where eight registers may stand: the two questions about a base address and a stride.
use Rattle.std.specs.Prelude.{ℕ, ◌+◌, ◌-◌, ◌*◌, ◌/◌, ◌%◌, ◌^◌, ◌<◌, ◌≤◌, cond, [], ◌∷◌, ◌==◌, ◌≢◌, Some, None, Option, nat_lt}
use Rattle.std.specs.Int.{IsPowerOfTwo}
use Rattle.registers.specs.Refusal.{Refusal, refusal, amount}

-- the address of the register k
abbrev pub register : ℕ → ℕ → ℕ → ℕ
register base stride k = base + k * stride

-- the stride is a power of two, and the last register has a 64-bit address
pub record MmioFits (base stride : ℕ) : Type 0 where
  pub power : IsPowerOfTwo stride
  pub last : register base stride 7 < 2 ^ 64

-- why registers cannot stand there: the first question that is answered no
pub data NoMmio (base stride : ℕ) : Refusal → Type 0 where
  bad_stride : (IsPowerOfTwo stride → ⊥) → NoMmio base stride (refusal 1 (amount stride ∷ []))
  too_high : IsPowerOfTwo stride → 2 ^ 64 ≤ register base stride 7 → NoMmio base stride (refusal 2 (amount base ∷ []))

-- the last register has a 16-bit port; ports have no stride
abbrev pub PortFits : ℕ → Type 0
PortFits base = base + 7 ≤ 65535

pub data NoPort (base : ℕ) : Refusal → Type 0 where
  too_high_port : 65535 < base + 7 → NoPort base (refusal 2 (amount base ∷ []))

-- no register stands at the address a
abbrev pub Elsewhere : ℕ → ℕ → ℕ → Type 0
Elsewhere base stride a = (k : ℕ) → k < 8 → a ≢ register base stride k

-- the offset of the register at the address a, where one stands
abbrev pub offset_at : ℕ → ℕ → ℕ → Option ℕ
offset_at base stride a =
    cond (nat_lt a base) None
    (cond ((a - base) % stride == 0) (cond (nat_lt ((a - base) / stride) 8) (Some ((a - base) / stride)) None) None)
