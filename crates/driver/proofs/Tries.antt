-- Tries to receive, one after the other.
use Rattle.std.proofs.Common.{◌≡◌, ℕ, ◌+◌, ◌<◌, List, [], ◌∷◌, ◌++◌, length, set, sym, refl, ap, ◌∙◌, arith}
use Rattle.std.proofs.lemmas.Grind.{flat_map-append}
use Rattle.std.proofs.lemmas.List.{map-append}
use Rattle.std.proofs.lemmas.List.Sums.{fold-append, sum_by-append}
use Rattle.registers.specs.Flags.{line_errors, line_changes}
use Rattle.backends.specs.Device.{Device}
use Rattle.driver.specs.declared.uart.Uart16550.{Uart16550}
use Rattle.driver.specs.Kept.{Kept, kept, with_saved}
use Rattle.driver.specs.Traces.{joined, noting}
use Rattle.driver.specs.Receives.{Try, took, missed, Sound, accesses_of, status_of, tries, statuses, misses, filled, Made}
use Rattle.driver.proofs.Runs.{runs_append}

-- what is kept from some reads, and then from others
pub noting_append : (k : Kept) (ls ms ls' ms' : List ℕ) → noting (noting k ls ms) ls' ms' ≡ noting k (ls ++ ls') (ms ++ ms')
noting_append k ls ms ls' ms' =
    ap (λ n. with_saved k n (joined line_changes (joined line_changes k.msr ms) ms')) (sym (fold-append _ k.lsr ls ls'))
    ∙ ap (λ n. with_saved k (joined line_errors k.lsr (ls ++ ls')) n) (sym (fold-append _ k.msr ms ms'))

-- what holds of tries, holds of tries and then others
pub sound_append : (ts us : List Try) → Sound ts → Sound us → Sound (ts ++ us)
sound_append [] us p q = q
sound_append (took v b ∷ ts) us p q = (p.0, sound_append ts us p.1 q)
sound_append (missed v ∷ ts) us p q = (p.0, sound_append ts us p.1 q)

-- how many found nothing, of tries and then others
pub misses_append : (ts us : List Try) → misses (ts ++ us) ≡ misses ts + misses us
misses_append ts us = sum_by-append _ ts us

pub no_tries : {S : Type 0} {d : Device S} {u : Uart16550 S} → Made d u u []
no_tries = record { sound = tt; ran = refl; keeps = refl }

-- tries, and then others
pub made_append : {S : Type 0} {d : Device S} {u v w : Uart16550 S} {ts us : List Try} → Made d u v ts → Made d v w us → Made d u w (ts ++ us)
made_append {d = d} {u = u} {v = v} {w = w} {ts = ts} {us = us} p q = record {
  sound = sound_append ts us p.sound q.sound;
  ran = rw (flat_map-append accesses_of ts us) (runs_append d (tries ts) (tries us) u.backend v.backend w.backend p.ran q.ran);
  keeps = q.keeps ∙ ap (λ k. noting k (statuses us) []) p.keeps ∙ noting_append (kept u) (statuses ts) [] (statuses us) []
      ∙ ap (λ vs. noting (kept u) vs []) (sym (map-append status_of ts us));
}

-- one byte more in the buffer
pub filled_more : (bs buffer : List ℕ) (b : ℕ) → length bs < length buffer → set (filled bs buffer) (length bs) b ≡ filled (bs ++ (b ∷ [])) buffer
filled_more [] (x ∷ buffer) b h = refl
filled_more [] [] b h = absurd (omega arith)
filled_more (c ∷ bs) (x ∷ buffer) b h = ap (λ l. c ∷ l) (filled_more bs buffer b (omega arith))
filled_more (c ∷ bs) [] b h = absurd (omega arith)
