-- A scripted device: its bytes in order, and 0xFF after their end.
use Rattle.std.specs.Prelude.{ℕ, List, drop, slice_index_or}
use Rattle.backends.specs.Device.{Device}

-- the state is the list of the bytes that are still to be read: each read takes the next, whatever the register;
-- writes do nothing
abbrev pub script : Device (List ℕ)
script = record {
  reader = record {
    gives = λ bytes k. slice_index_or bytes 0 0xFF;
    next = λ bytes k. drop 1 bytes;
  };
  write = λ bytes k v. bytes;
}
