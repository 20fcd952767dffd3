-- A recorder: the device below it, and a table that notes each access.
use Rattle.std.specs.Prelude.{ℕ, List}
use Rattle.backends.specs.Device.{Device, Runs, rd, wr}
use Rattle.backends.specs.Log.{noted, Holds}
use Rattle.backends.specs.declared.access.Access.{Access}
use Rattle.backends.specs.declared.recorder.Recording.{Recording}

abbrev pub recorded : {S : Type 0} → (room : ℕ) → Device S → Device (Recording S room)
recorded room d = record {
  reader = record {
    gives = λ s k. d.reader.gives s.inner k;
    next = λ s k. record { inner = d.reader.next s.inner k; log = noted room s.log (rd k (d.reader.gives s.inner k)) };
  };
  write = λ s k v. record { inner = d.write s.inner k v; log = noted room s.log (wr k v) };
}

-- the recorder t stands above the state to which these accesses led from s, and holds them
pub record Traced {S : Type 0} (room : ℕ) (d : Device S) (s : S) (xs : List Access) (t : Recording S room) : Type 0 where
  pub below : Runs d xs s t.inner
  pub holds : Holds room t.log xs

-- whatever is done with the recorder r from now on was done with the device below, from s, and is what r then holds
abbrev pub Faithful : {S : Type 0} → (room : ℕ) → Device S → S → Recording S room → Type 0
Faithful {S} room d s r = (xs : List Access) (t : Recording S room) → Runs (recorded room d) xs r t → Traced room d s xs t
