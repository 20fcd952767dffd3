use Rattle.std.proofs.Common.{◌<◌, length, refl, sym, ap, ◌∙◌, subst}
use Rattle.bench.specs.State.{State, state, IsSound}
use Rattle.bench.specs.TapeAndLine.{came, filled}
use Rattle.bench.specs.declared.tape_and_line.TapeAndLine.{TapeAndLine}
use Rattle.bench.specs.Keeping.Moves.{arrives_sound}
use Rattle.bench.proofs.Fills.{fills_stop, fills_step, arrives_shorter}
use Rattle.bench.proofs.tape_and_line.TapeAndLine.fill.Goals as goal

pub loop-self-preserved : goal.loop-self-preserved
loop-self-preserved c =
    let l = c.loop-self in
    let p = state l.core l.self in
    let es = l.self.tape.coming in
    let r = sym c.due.ensures ∙ c.loop-self-test.true in
    record {
      exact = ap filled c.arrive.ensures ∙ sym (fills_step es p refl r) ∙ l.invariant.exact;
      sound = subst (IsSound came) (sym c.arrive.ensures) (arrives_sound es p r l.invariant.sound);
    }

pub loop-self-smaller : goal.loop-self-smaller
loop-self-smaller c =
    let l = c.loop-self in
    let es = l.self.tape.coming in
    subst (λ (p : State TapeAndLine). length p.joined.tape.coming < length es) (sym c.arrive.ensures)
    (arrives_shorter es (state l.core l.self) refl (sym c.due.ensures ∙ c.loop-self-test.true))

pub returns : goal.returns
returns c =
    let l = c.loop-self in
    record {
      exact = sym (fills_stop l.self.tape.coming (state l.core l.self) (sym c.due.ensures ∙ c.loop-self-test.false)) ∙ l.invariant.exact;
      sound = l.invariant.sound;
    }
