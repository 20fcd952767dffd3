-- A simulated chip as a device, and what it means.
use Rattle.std.specs.Prelude.{length}
use Rattle.backends.specs.Chip.{ChipState}
use Rattle.backends.specs.Device.{Device}
use Rattle.bench.specs.declared.joined.Joined.{Ghosts}
use Rattle.bench.specs.declared.simulated.Simulated.{Simulated}
use Rattle.bench.specs.Core.{answer}
use Rattle.bench.specs.State.{State, state, meaning_of, read, write}
use Rattle.bench.specs.Keeping.Kept.{answered_sound, written_sound}

module _ {J : Type 0} (G : Ghosts J) where
  abbrev pub state_of : Simulated J G → State J
  state_of s = state s.core s.joined

  -- what is joined to the chip moves first, and then the register acts
  abbrev pub simulated_device : Device (Simulated J G)
  simulated_device = record {
    reader = record {
      gives = λ s k. answer (G.ticked (state_of s)).core k;
      next = λ s k. let t = G.ticked (state_of s) in let o = G.sound (state_of s) s.ok in record {
        core = (read t k).core;
        joined = t.joined;
        ok = (answered_sound (length (G.came t.joined)) t.core k o.0, o.1);
      };
    };
    write = λ s k v. let t = G.ticked (state_of s) in let o = G.sound (state_of s) s.ok in record {
      core = (write t k v).core;
      joined = t.joined;
      ok = (written_sound (length (G.came t.joined)) t.core k v o.0, o.1);
    };
  }

  abbrev pub simulated_meaning : Simulated J G → ChipState
  simulated_meaning s = meaning_of G.came G.gone (state_of s)
