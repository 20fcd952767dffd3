-- An address space that keeps the address of the last write, and gives 0xFF to every read.
use Rattle.std.specs.Prelude.{Some}
use Rattle.backends.specs.Space.{Bus}
use Rattle.calls.specs.declared.places.Landing.{Landing}

abbrev pub landing : Bus Landing
landing = record {
  reader = record { gives = λ s a. 0xFF; next = λ s a. s };
  write = λ s a v. record { address = Some a };
}
