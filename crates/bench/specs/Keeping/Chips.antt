-- A simulated chip keeps the rules, if what is joined to it moves it as they say.
use Rattle.backends.specs.Rules.{Moved, KeepsRules}
use Rattle.bench.specs.declared.joined.Joined.{Ghosts}
use Rattle.bench.specs.Simulated.{state_of, simulated_device, simulated_meaning}
use Rattle.bench.specs.State.{State, meaning_of}
use Rattle.bench.specs.Keeping.Acts.{reads_act, writes_act}
use Rattle.bench.specs.Keeping.Single.{single_waits}

pub simulated_keeps : {J : Type 0} (G : Ghosts J)
    → ((s : State J) → Moved (meaning_of G.came G.gone s) (meaning_of G.came G.gone (G.ticked s)))
    → KeepsRules (simulated_device G) (simulated_meaning G)
simulated_keeps G moves = record {
  reading = λ s k l.
      let t = G.ticked (state_of G s) in
      record { mid = meaning_of G.came G.gone t; before = moves (state_of G s); acts = reads_act (G.came t.joined) (G.gone t.joined) t.core k };
  writing = λ s k v l.
      let t = G.ticked (state_of G s) in
      record { mid = meaning_of G.came G.gone t; before = moves (state_of G s); acts = writes_act (G.came t.joined) (G.gone t.joined) t.core k v };
  single = λ s e. single_waits s.core s.ok.0.1 e;
}
