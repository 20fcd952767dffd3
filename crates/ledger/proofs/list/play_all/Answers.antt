use Rattle.std.proofs.Common.{◌≡◌, ◌<◌, ◌≢◌, [], ◌∷◌, ◌++◌, length, get_or, set, Some, sym, refl, ◌∙◌, subst, ⊎_elim, arith, get_or-set_other, get_or-set_same}
use Rattle.std.proofs.lemmas.Bool.{cases_lt}
use Rattle.ledger.specs.declared.call.Entry.{Entry}
use Rattle.ledger.specs.Did.{SameCall}
use Rattle.std.proofs.lemmas.List.{take_more_set, take_all, get_or_default}
use Rattle.ledger.proofs.Lists.{played_push}
use Rattle.ledger.proofs.Same.{same_call}
use Rattle.ledger.proofs.list.play_all.Goals as goal

pub loop-entry-init : goal.loop-entry-init
loop-entry-init g c = (([], refl), (λ i e h. absurd (omega arith)), (λ i e h. refl))

pub loop-entry-preserved : goal.loop-entry-preserved
loop-entry-preserved g c =
    let i = c.loop-entry.invariant in
    let xs = c.loop-entry.calls in
    let n = c.loop-entry.entry-index in
    let y : Entry = record { call = c.perform.new.call; answer = Some c.perform.result } in
    let x = get_or xs n c.entry-item.result in
    let h : n < length xs = omega (arith, c.loop-entry.auto.calls) in
    let m = same_call g.C.Backend.device _ _ _ _ _ c.perform.ensures in (
      (
        i.0.0 ++ (g.C.Chip.meaning c.perform.new.uart.backend ∷ []),
        rw (take_more_set xs n y h) (played_push g.C.Backend.device g.C.Chip.meaning _ _ _ _ i.0.0 _ y i.0.1 c.perform.ensures),
      ),
      (λ j e l. ⊎_elim
          (λ k. let ne : j ≢ n = omega arith in subst (λ z. SameCall (get_or c.args.calls.now j e).call z.call) (sym (get_or-set_other xs n j y e ne)) (i.1 j e k))
          (λ k. let q : j ≡ n = omega arith in
          let a : get_or c.args.calls.now n e ≡ x = sym (i.2 n e (omega arith)) ∙ get_or_default xs n e c.entry-item.result h in
          subst (λ z. SameCall (get_or c.args.calls.now z e).call (get_or (set xs n y) z e).call) (sym q)
          (subst (λ z. SameCall z.call (get_or (set xs n y) n e).call) (sym a) (subst (λ z. SameCall x.call z.call) (sym (get_or-set_same xs n y e h)) m)))
          (cases_lt j n)),
      (λ j e l. let ne : j ≢ n = omega arith in get_or-set_other xs n j y e ne ∙ i.2 j e (omega arith)),
    )

pub returns : goal.returns
returns g c =
    let i = c.loop-entry.invariant in
    record {
      same = record { many = c.loop-entry.auto.calls; each = λ j e h. i.1 j e (omega arith) };
      played = (i.0.0, rw (take_all c.loop-entry.entry-index c.loop-entry.calls (omega (arith, c.loop-entry.auto.calls))) at i.0.1);
    }
