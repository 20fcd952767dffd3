-- A scripted device that keeps a sum over what is written.
use Rattle.std.specs.Prelude.{ℕ, ◌+◌, cond, List, length, nat_lt, slice_index_or}
use Rattle.backends.specs.Device.{Device}
use Rattle.measured.specs.declared.tape.Tape.{Tape}
use Rattle.measured.specs.Sum.{mixed}

-- how many bytes are read after a read that begins with `at` of them read
abbrev pub advanced : List ℕ → ℕ → ℕ
advanced bytes at = cond (nat_lt at (length bytes)) (at + 1) at

-- each read takes the next byte, whatever the register, and 0xFF after the last; each write enters the sum
abbrev pub tape_device : Device Tape
tape_device = record {
  reader = record {
    gives = λ s k. slice_index_or s.bytes.now s.at 0xFF;
    next = λ s k. record { bytes = s.bytes; at = advanced s.bytes.now s.at; sum = s.sum };
  };
  write = λ s k v. record { bytes = s.bytes; at = s.at; sum = mixed s.sum k v };
}
