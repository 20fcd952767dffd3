-- With a tape and a line: what moves before an access keeps the chip sound, and moves as the rules say.
use Rattle.std.specs.Prelude.{◌≡◌, ℕ, ◌+◌, ◌≤◌, true, List, [], ◌∷◌, ◌++◌, length, map, refl}
use Rattle.std.proofs.Common.{arith, sym, ap, ◌∙◌, subst}
use Rattle.std.proofs.lemmas.List.{length-map, length_push, map_push}
use Rattle.std.proofs.lemmas.Bool.{and_parts, ltb-true, cond_both}
use Rattle.backends.specs.declared.character.Character.{Character}
use Rattle.backends.specs.Chip.{ChipState, with_transmitter}
use Rattle.backends.specs.Rules.{arrive, LineMoved, LoopMoved, Moved}
use Rattle.bench.specs.declared.tape.TapeEntry.{TapeEntry}
use Rattle.bench.specs.declared.tape_and_line.TapeAndLine.{TapeAndLine}
use Rattle.bench.specs.Core.{accepting, reaching, turned}
use Rattle.bench.specs.Keeping.Kept.{arrived_sound, turned_sound}
use Rattle.bench.specs.Line.{room}
use Rattle.bench.specs.Meaning.{chip_of, receiver_of}
use Rattle.bench.specs.Pace.{beats}
use Rattle.bench.specs.Settings.{mode, loops}
use Rattle.bench.specs.Sound.{Sound}
use Rattle.bench.specs.State.{State, state, IsSound, meaning_of}
use Rattle.bench.specs.Tape.{over, due}
use Rattle.bench.specs.TapeAndLine.{came, gone, arriving, arrives, fills, filled, leaves, leaving, paced, passed_looping, beaten, aged, ticked}
use Rattle.bench.specs.Keeping.Acts.{chip_path}
use Rattle.bench.specs.Keeping.Reaches.{reach_is}
use Rattle.bench.specs.Keeping.Rounds.{moved_by, none_round, turned_is}
use Rattle.bench.specs.Keeping.Sends.{one_gone_is, lessened, none_less}

-- It keeps the chip sound

pub arrives_sound : (es : List TapeEntry) (p : State TapeAndLine) → arriving p ≡ true → IsSound came p → IsSound came (arrives es p)
arrives_sound [] p r h = h
arrives_sound (e ∷ es) p r h =
    let t = p.joined.tape in
    let f = λ (e : TapeEntry). e.character in
    let o = ltb-true (length t.came) 65535 (and_parts _ (due t.since t.coming) (and_parts (accepting p.core) (over t) r).1).0 in
    let n : length (map f (t.came ++ e ∷ [])) ≡ length (map f t.came) + 1 = omega (arith, length-map (t.came ++ e ∷ []) f, length-map t.came f, length_push t.came e) in
    subst (λ m. Sound m (arrives (e ∷ es) p).core × (m ≤ 65535)) (sym n)
    (arrived_sound e.character (length (map f t.came)) p.core h.0, omega (arith, length-map t.came f))

fills_sound : (es : List TapeEntry) (p : State TapeAndLine) → IsSound came p → IsSound came (fills es p)
unfolding fills
fills_sound [] p h = h
fills_sound (e ∷ es) p h =
    cond_both (arriving p) (fills es (arrives (e ∷ es) p)) p (IsSound came)
    (λ r. fills_sound es (arrives (e ∷ es) p) (arrives_sound (e ∷ es) p r h)) (λ _. h)

leaves_sound : (bs : List ℕ) (p : State TapeAndLine) → IsSound came p → IsSound came (leaves bs p)
leaves_sound [] p h = h
leaves_sound (b ∷ bs) p h = h

pub beaten_sound : (p : State TapeAndLine) → IsSound came p → IsSound came (beaten p)
beaten_sound p h =
    let q = state p.core (paced p.joined) in
    cond_both (beats p.joined.pace) (leaving q) q (IsSound came)
    (λ _. cond_both (room p.joined.line) (leaves p.core.transmitter.held q) q (IsSound came)
    (λ _. leaves_sound p.core.transmitter.held q h) (λ _. h)) (λ _. h)

pub ticked_sound : (p : State TapeAndLine) → IsSound came p → IsSound came (ticked p)
ticked_sound p h =
    let q = aged (beaten p) in
    cond_both (loops p.core.settings) (passed_looping p) (filled q) (IsSound came)
    (λ _. cond_both (beats p.joined.pace) (turned p.core) p.core (λ s. IsSound came (state s p.joined))
    (λ _. (turned_sound (length (came p.joined)) p.core h.0, h.1)) (λ _. h))
    (λ _. fills_sound q.joined.tape.coming q (beaten_sound p h))

-- Loop mode

abbrev meaning : State TapeAndLine → ChipState
meaning p = meaning_of came gone p

looping_moves : (p : State TapeAndLine) → LoopMoved (meaning p) (meaning (passed_looping p))
looping_moves p =
    cond_both (beats p.joined.pace) (turned p.core) p.core (λ s. LoopMoved (meaning p) (chip_of (came p.joined) (gone p.joined) s))
    (λ _. turned_is (came p.joined) (gone p.joined) p.core) (λ _. none_round (meaning p))

-- Outside loop mode: characters arrive

-- these arrive at a chip
abbrev arrived : List Character → ChipState → ChipState
arrived cs m = record m { receiver = arrive m.setup.fifos cs m.receiver }

abbrev Arrived : ChipState → ChipState → Type 0
Arrived m n = (cs : List Character) × (n ≡ arrived cs m)

one_arrived : (e : TapeEntry) (es : List TapeEntry) (p : State TapeAndLine) → meaning (arrives (e ∷ es) p) ≡ arrived (e.character ∷ []) (meaning p)
one_arrived e es p =
    let c = e.character in
    chip_path _ _ _ _ _
    (ap (λ cs. receiver_of cs (reaching p.core c)) (map_push (λ (e : TapeEntry). e.character) p.joined.tape.came e)
    ∙ reach_is (mode p.core.settings.fifos) c p.core.receiver (came p.joined) (c ∷ [])) refl

fills_is : (es : List TapeEntry) (p : State TapeAndLine) → Arrived (meaning p) (meaning (fills es p))
unfolding fills
fills_is [] p = ([], refl)
fills_is (e ∷ es) p =
    cond_both (arriving p) (fills es (arrives (e ∷ es) p)) p (λ q. Arrived (meaning p) (meaning q))
    (λ _. let r = fills_is es (arrives (e ∷ es) p) in (e.character ∷ r.0, r.1 ∙ ap (λ m. arrived r.0 m) (one_arrived e es p)))
    (λ _. ([], refl))

-- Outside loop mode: bytes leave

abbrev Left : ChipState → ChipState → Type 0
Left m n = (k : ℕ) × (k ≤ m.transmitter.held) × (n ≡ lessened k m)

none_left : (m : ChipState) → Left m m
none_left m = (0, omega arith, none_less m)

leaves_is : (bs : List ℕ) (p : State TapeAndLine) → p.core.transmitter.held ≡ bs → Left (meaning p) (meaning (leaves bs p))
leaves_is [] p e = none_left (meaning p)
leaves_is (b ∷ bs) p e = (
  1,
  rw e (omega arith),
  rw e (ap (λ u. with_transmitter (meaning p) u) (one_gone_is (gone p.joined) b bs p.core.transmitter.turning)),
)

beaten_is : (p : State TapeAndLine) → Left (meaning p) (meaning (beaten p))
beaten_is p =
    let q = state p.core (paced p.joined) in
    cond_both (beats p.joined.pace) (leaving q) q (λ q. Left (meaning p) (meaning q))
    (λ _. cond_both (room p.joined.line) (leaves p.core.transmitter.held q) q (λ q. Left (meaning p) (meaning q))
    (λ _. leaves_is p.core.transmitter.held q refl) (λ _. none_left (meaning p)))
    (λ _. none_left (meaning p))

line_moves : (p : State TapeAndLine) → LineMoved (meaning p) (meaning (filled (aged (beaten p))))
line_moves p =
    let q = aged (beaten p) in
    let l = beaten_is p in
    let a = fills_is q.joined.tape.coming q in
    record { arrivals = a.0; gone = l.0; enough = l.1; after = a.1 ∙ ap (λ m. arrived a.0 m) l.2 }

pub ticked_moves : (p : State TapeAndLine) → Moved (meaning p) (meaning (ticked p))
ticked_moves p = moved_by came gone p (passed_looping p) (filled (aged (beaten p))) (looping_moves p) (line_moves p)
