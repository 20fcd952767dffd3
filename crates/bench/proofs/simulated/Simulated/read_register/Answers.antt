use Rattle.std.proofs.Common.{sym, ap, ◌∙◌, subst, arith}
use Rattle.std.proofs.lemmas.Bool.{lt-ltb}
use Rattle.bench.specs.Simulated.{simulated_device}
use Rattle.bench.specs.State.{state, IsSound, read}
use Rattle.bench.proofs.Equal.{same_simulated}
use Rattle.bench.proofs.simulated.Simulated.read_register.Goals as goal

pub invariant_of-self : goal.invariant_of-self
invariant_of-self g c =
    let e = ap (λ q. state q c.tick.new.self) c.read.ensures.state ∙ ap (λ p. read p c.args.offset) c.tick.ensures in
    record { ok = subst (IsSound g.J.Joined.came) (sym e) ((simulated_device g.J.Joined).reader.next c.args.self.now c.args.offset).ok }

pub returns-clause-state : goal.returns-clause-state
returns-clause-state g c =
    let l = lt-ltb c.args.offset 8 (omega arith) in
    let e = ap (λ q. state q c.tick.new.self) c.read.ensures.state ∙ ap (λ p. read p c.args.offset) c.tick.ensures in
    simp l (same_simulated g.J.Joined _ _ e)
