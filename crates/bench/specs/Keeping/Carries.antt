-- With a cable: what moves before an access keeps the chip sound, and moves as the rules say.
use Rattle.std.specs.Prelude.{◌≡◌, ℕ, ◌+◌, ◌≤◌, true, cond, List, [], ◌∷◌, ◌++◌, length, map, min, refl}
use Rattle.std.proofs.Common.{arith, sym, ap, ◌∙◌, subst}
use Rattle.std.proofs.lemmas.List.{length-map, length_push, map_push}
use Rattle.std.proofs.lemmas.Bool.{and_parts, ltb-true, cond_both}
use Rattle.backends.specs.Chip.{ChipState}
use Rattle.backends.specs.Rules.{unmarked, LineMoved, Moved}
use Rattle.bench.specs.declared.cable.Cable.{Cable}
use Rattle.bench.specs.Cable.{came, gone, carrying, carried, ticked}
use Rattle.bench.specs.Core.{accepting, reaching, turned}
use Rattle.bench.specs.Keeping.Kept.{arrived_sound, turned_sound}
use Rattle.bench.specs.Line.{room}
use Rattle.bench.specs.Meaning.{receiver_of}
use Rattle.bench.specs.Settings.{mode, loops}
use Rattle.bench.specs.Sound.{Sound}
use Rattle.bench.specs.State.{State, state, IsSound, meaning_of}
use Rattle.bench.specs.Keeping.Acts.{chip_path}
use Rattle.bench.specs.Keeping.Reaches.{reach_is}
use Rattle.bench.specs.Keeping.Rounds.{moved_by, turned_is}
use Rattle.bench.specs.Keeping.Sends.{one_gone_is, none_less}

-- It keeps the chip sound

pub carried_sound : (bs : List ℕ) (p : State Cable) → carrying p ≡ true → IsSound came p → IsSound came (carried bs p)
carried_sound [] p r h = h
carried_sound (b ∷ bs) p r h =
    let l = p.joined.line in
    let o = ltb-true (length l.gone) (min l.space 65535) (and_parts (room l) (accepting p.core) r).0 in
    let n : length (map unmarked (l.gone ++ b ∷ [])) ≡ length (map unmarked l.gone) + 1 = omega (arith, length-map (l.gone ++ b ∷ []) unmarked, length-map l.gone unmarked, length_push l.gone b) in
    subst (λ m. Sound m (carried (b ∷ bs) p).core × (m ≤ 65535)) (sym n)
    (arrived_sound (unmarked b) (length (map unmarked l.gone)) p.core h.0, omega (arith, length-map l.gone unmarked))

pub ticked_sound : (p : State Cable) → IsSound came p → IsSound came (ticked p)
ticked_sound p h =
    cond_both (loops p.core.settings) (state (turned p.core) p.joined) _ (IsSound came)
    (λ _. (turned_sound (length (came p.joined)) p.core h.0, h.1))
    (λ _. cond_both (carrying p) (carried p.core.transmitter.held p) p (IsSound came) (λ e. carried_sound p.core.transmitter.held p e h) (λ _. h))

-- It moves as the rules say

abbrev meaning : State Cable → ChipState
meaning p = meaning_of came gone p

none_moved : (m : ChipState) → LineMoved m m
none_moved m = record { arrivals = []; gone = 0; enough = omega arith; after = none_less m }

carried_moves : (bs : List ℕ) (p : State Cable) → p.core.transmitter.held ≡ bs → LineMoved (meaning p) (meaning (carried bs p))
carried_moves [] p e = none_moved (meaning p)
carried_moves (b ∷ bs) p e =
    let c = unmarked b in
    record {
      arrivals = c ∷ [];
      gone = 1;
      enough = rw e (omega arith);
      after = rw e (chip_path _ _ _ _ _
          (ap (λ cs. receiver_of cs (reaching p.core c)) (map_push unmarked (gone p.joined) b)
          ∙ reach_is (mode p.core.settings.fifos) c p.core.receiver (came p.joined) (c ∷ []))
          (one_gone_is (gone p.joined) b bs p.core.transmitter.turning));
    }

line_moves : (p : State Cable) → LineMoved (meaning p) (meaning (cond (carrying p) (carried p.core.transmitter.held p) p))
line_moves p =
    cond_both (carrying p) (carried p.core.transmitter.held p) p (λ q. LineMoved (meaning p) (meaning q))
    (λ _. carried_moves p.core.transmitter.held p refl) (λ _. none_moved (meaning p))

pub ticked_moves : (p : State Cable) → Moved (meaning p) (meaning (ticked p))
ticked_moves p =
    moved_by came gone p (state (turned p.core) p.joined) (cond (carrying p) (carried p.core.transmitter.held p) p)
    (turned_is (came p.joined) (gone p.joined) p.core) (line_moves p)
