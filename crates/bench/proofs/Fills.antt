-- The loop that lets characters arrive.
use Rattle.std.proofs.Common.{◌≡◌, ◌<◌, true, false, List, [], ◌∷◌, length, refl, sym, ap, ◌∙◌, arith}
use Rattle.std.proofs.lemmas.Bool.{and_parts, false≢true}
use Rattle.bench.specs.declared.tape.TapeEntry.{TapeEntry}
use Rattle.bench.specs.declared.tape_and_line.TapeAndLine.{TapeAndLine}
use Rattle.bench.specs.Core.{accepting}
use Rattle.bench.specs.State.{State}
use Rattle.bench.specs.Tape.{due, over}
use Rattle.bench.specs.TapeAndLine.{arriving, arrives, fills, filled}

-- nothing arrives: it stops
pub fills_stop : (es : List TapeEntry) (p : State TapeAndLine) → arriving p ≡ false → fills es p ≡ p
unfolding fills
fills_stop [] p r = refl
fills_stop (e ∷ es) p r = rw r

-- one arrives: it goes on behind that one
pub fills_step : (es : List TapeEntry) (p : State TapeAndLine) → p.joined.tape.coming ≡ es → arriving p ≡ true → fills es p ≡ filled (arrives es p)
unfolding fills
fills_step [] p e r = rw e
fills_step (x ∷ es) p e r = rw r

-- and one entry less is still to come
pub arrives_shorter : (es : List TapeEntry) (p : State TapeAndLine) → p.joined.tape.coming ≡ es → arriving p ≡ true
    → length (arrives es p).joined.tape.coming < length es
arrives_shorter [] p e r =
    let t = p.joined.tape in
    let d = (and_parts _ (due t.since t.coming) (and_parts (accepting p.core) (over t) r).1).1 in
    absurd (false≢true (sym (ap (λ es. due t.since es) e) ∙ d))
arrives_shorter (x ∷ es) p e r = omega arith
