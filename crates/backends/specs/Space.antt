-- An address space by what its state fixes: for each 64-bit address the byte that a read gives and
-- the state after it, and the state after a write of each byte.
use Rattle.std.specs.Prelude.{ℕ}
use Rattle.backends.specs.Device.{Reader}

pub record Bus (S : Type 0) : Type 0 where
  pub reader : Reader S
  pub write : S → ℕ → ℕ → S
