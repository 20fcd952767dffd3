-- What moves in loop mode, as the rules say: the oldest byte comes round.
use Rattle.std.specs.Prelude.{◌≡◌, ℕ, cond, List, [], ◌∷◌, refl}
use Rattle.std.proofs.Common.{arith, append-nil, sym, ap, ◌∙◌, subst}
use Rattle.std.proofs.lemmas.Bool.{cond_both, cond-true, cond-false}
use Rattle.backends.specs.declared.character.Character.{Character}
use Rattle.backends.specs.Chip.{ChipState}
use Rattle.backends.specs.Rules.{unmarked, LineMoved, LoopMoved, Moved}
use Rattle.bench.specs.declared.chip_core.Core.{Core}
use Rattle.bench.specs.Core.{accepting, come_round, reaching, turned}
use Rattle.bench.specs.Meaning.{chip_of, receiver_of}
use Rattle.bench.specs.Settings.{mode, loops}
use Rattle.bench.specs.State.{State, meaning_of}
use Rattle.bench.specs.Keeping.Acts.{chip_path}
use Rattle.bench.specs.Keeping.Reaches.{reach_is}

pub none_round : (m : ChipState) → LoopMoved m m
none_round m = record { rounds = 0; enough = omega arith; after = refl }

module _ (a : List Character) (g : List ℕ) (s : Core) where
  one_comes : (bs : List ℕ) → s.transmitter.turning ≡ bs → LoopMoved (chip_of a g s) (chip_of a g (come_round bs s))
  one_comes [] e = none_round (chip_of a g s)
  one_comes (b ∷ bs) e = record {
    rounds = 1;
    enough = rw e (omega arith);
    after = rw e (chip_path _ _ _ _ _
        (ap (λ xs. receiver_of xs (reaching s (unmarked b))) (sym (append-nil a)) ∙ reach_is (mode s.settings.fifos) (unmarked b) s.receiver a []) refl);
  }

  pub turned_is : LoopMoved (chip_of a g s) (chip_of a g (turned s))
  turned_is =
      cond_both (accepting s) _ s (λ q. LoopMoved (chip_of a g s) (chip_of a g q))
      (λ _. one_comes s.transmitter.turning refl) (λ _. none_round (chip_of a g s))

-- what moves in loop mode and what moves outside it make what moves
pub moved_by : {J : Type 0} (came : J → List Character) (gone : J → List ℕ) (p a b : State J)
    → LoopMoved (meaning_of came gone p) (meaning_of came gone a) → LineMoved (meaning_of came gone p) (meaning_of came gone b)
    → Moved (meaning_of came gone p) (meaning_of came gone (cond (loops p.core.settings) a b))
moved_by came gone p a b x y =
    let m = meaning_of came gone in
    record {
      line = λ e. subst (λ q. LineMoved (m p) (m q)) (sym (cond-false (loops p.core.settings) a b e)) y;
      loop = λ e. subst (λ q. LoopMoved (m p) (m q)) (sym (cond-true (loops p.core.settings) a b e)) x;
    }
