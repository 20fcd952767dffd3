-- Waits for the transmitter: one poll more.
use Rattle.std.proofs.Common.{◌≡◌, ℕ, ◌+◌, true, false, [], ◌∷◌, ◌++◌, ap, ◌∙◌, arith}
use Rattle.std.proofs.lemmas.List.{length_push, map-append}
use Rattle.std.proofs.lemmas.List.Elements.{All-push}
use Rattle.registers.specs.Flags.{contains}
use Rattle.backends.specs.Device.{Device, Runs, rd}
use Rattle.driver.specs.declared.uart.Uart16550.{Uart16550}
use Rattle.driver.specs.Kept.{kept}
use Rattle.driver.specs.Traces.{polls, noting, StayedBusy, SeenEmpty}
use Rattle.driver.proofs.Runs.{runs_append}
use Rattle.driver.proofs.Tries.{noting_append}

module _ {S : Type 0} {d : Device S} {u v w : Uart16550 S} {a b : ℕ} (z : ℕ) (h : StayedBusy d u v a b)
    (ran : Runs d (rd 5 z ∷ []) v.backend w.backend) (note : kept w ≡ noting (kept v) (z ∷ []) []) where
  longer : Runs d (polls h.polled ++ (rd 5 z ∷ [])) u.backend w.backend
  longer = runs_append d (polls h.polled) (rd 5 z ∷ []) u.backend v.backend w.backend h.ran ran

  noted : kept w ≡ noting (kept u) (h.polled ++ (z ∷ [])) []
  noted = note ∙ ap (λ k. noting k (z ∷ []) []) h.keeps ∙ noting_append (kept u) h.polled [] (z ∷ []) []

  -- one fruitless poll more
  pub still_busy : contains z 0x40 ≡ false → {n : ℕ} → n ≡ b + 1 → StayedBusy d u w a n
  still_busy e f = record {
    polled = h.polled ++ (z ∷ []);
    busy = All-push (λ y. contains y 0x40 ≡ false) h.polled z h.busy e;
    count = let p = length_push h.polled z in omega (arith, h.count);
    ran = rw (map-append (rd 5) h.polled (z ∷ [])) longer;
    keeps = noted;
  }

  -- the poll that shows it empty
  pub now_empty : contains z 0x40 ≡ true → SeenEmpty d u w a b
  now_empty e = record {
    polled = h.polled;
    last = z;
    busy = h.busy;
    empty = e;
    count = h.count;
    ran = longer;
    keeps = noted;
  }
