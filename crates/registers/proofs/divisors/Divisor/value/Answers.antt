use Rattle.std.proofs.Common.{sym, subst}
use Rattle.registers.specs.Divisors.{DividesClock}
use Rattle.registers.proofs.Listing.{name_divides, all_listed}
use Rattle.registers.proofs.divisors.Divisor.value.Goals as goal

pub returns : goal.returns
returns c = record {
  value = c.from.ensures;
  divides = subst (λ n. DividesClock n) (sym c.from.ensures) (name_divides c.args.self);
  complete = all_listed;
}
