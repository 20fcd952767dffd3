use Rattle.std.proofs.Common.{◌∙◌, is_ok, sym, ap, subst, arith, false-eqb, true-eqb}
use Rattle.std.specs.Cmp.Lexicographic.{same_text}
use Rattle.std.specs.Result.{result_ok}
use Rattle.std.proofs.ResultArms.{chosen}
use Rattle.std.proofs.lemmas.Option.{MatchOption-at_some}
use Rattle.calls.specs.Hex.{Means, none, these}
use Rattle.calls.proofs.Spelling.{Sofar, sofar_more, pair_at}
use Rattle.calls.proofs.hex.bytes_of.Goals as goal

pub returns-then-eq : goal.returns-then-eq
returns-then-eq c = subst (Means _) (sym c.new-bytes.ensures.items) (none (same_text _ _ (sym c.if-eq.true ∙ c.eq.ensures) ∙ c.as_slice.ensures))

pub loop-high-preserved : goal.loop-high-preserved
loop-high-preserved c =
    let pushed = chosen _ _ _ _ c.push.ensures.items (ap is_ok c.in_ok-push.was) in
    let pair = MatchOption-at_some _ _ _ (c.ok_or.ensures.ok_part ∙ ap result_ok c.in_ok-ok_or.was) c.byte_of.ensures in
    subst (Sofar _ _) (sym pushed) (sofar_more _ _ _ _ c.loop-high.invariant (pair_at _ _ _ _ _ c.as_chunks.ensures.front (omega arith) pair))

pub returns : goal.returns
returns c =
    let some = false-eqb _ 0 c.if-is_empty.ensures in
    let even = true-eqb _ 0 c.if-not-is_empty.ensures in
    these _ (record { some = omega (arith, some); lengths = omega (arith, even); places = λ i l. c.loop-high.invariant.1 i (omega arith) })
