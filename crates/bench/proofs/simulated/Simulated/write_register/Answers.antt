use Rattle.std.proofs.Common.{sym, ap, ◌∙◌, subst, arith}
use Rattle.std.proofs.lemmas.Bool.{lt-ltb}
use Rattle.bench.specs.Simulated.{simulated_device}
use Rattle.bench.specs.State.{state, IsSound, write}
use Rattle.bench.proofs.Equal.{same_simulated}
use Rattle.bench.proofs.simulated.Simulated.write_register.Goals as goal

pub invariant_of-self : goal.invariant_of-self
invariant_of-self g c =
    let e = ap (λ q. state q c.tick.new.self) c.write.ensures ∙ ap (λ p. write p c.args.offset c.args.value) c.tick.ensures in
    record { ok = subst (IsSound g.J.Joined.came) (sym e) ((simulated_device g.J.Joined).write c.args.self.now c.args.offset c.args.value).ok }

pub returns-then-offset-lt8 : goal.returns-then-offset-lt8
returns-then-offset-lt8 g c =
    let l = lt-ltb c.args.offset 8 (omega arith) in
    let e = ap (λ q. state q c.tick.new.self) c.write.ensures ∙ ap (λ p. write p c.args.offset c.args.value) c.tick.ensures in
    record { state = simp l (same_simulated g.J.Joined _ _ e) }
