use Rattle.std.proofs.Common.{refl, arith, rules}
use Rattle.registers.specs.Divisor.{large_prescaler, no_integer, too_large}
use Rattle.registers.specs.Rate.{no_integer as no_integer_rate}
use Rattle.registers.proofs.divisor.worked_examples.Goals as goal

pub returns : goal.returns
returns c = record {
  rate_9600 = search rules;
  rate_115200 = search rules;
  rate_110 = no_integer (omega arith) (omega arith) (omega arith) (λ q e. omega arith);
  rate_1 = too_large (omega arith) (omega arith) (omega arith) 115200 refl (omega arith);
  prescaler_15 = search rules;
  prescaler_16 = large_prescaler (omega arith) (omega arith) (omega arith);
  divisor_7 = no_integer_rate (omega arith) (omega arith) (omega arith) (λ r e. omega arith);
}
