-- An adapter over a window of equal base and stride is the backend behind the window.
use Rattle.std.proofs.Common.{◌≡◌, ℕ, ◌<◌, Some, sym, refl, ap, ◌∙◌, ap₂}
use Rattle.std.proofs.lemmas.Bool.{lt-ltb}
use Rattle.std.specs.Option.{option_map_or}
use Rattle.backends.specs.Device.{Device, reads, moves, writes}
use Rattle.backends.specs.Place.{register}
use Rattle.backends.specs.Adapters.{adapted}
use Rattle.backends.specs.Alike.{ActsAs}
use Rattle.backends.specs.Window.{slot, windowed, Shows, through}
use Rattle.backends.specs.declared.window.Window.{Window}
use Rattle.backends.proofs.Alike.{Agree, alike}
use Rattle.backends.proofs.Slots.{own_slot, no_slot}

module _ {S : Type 0} (d : Device S) (w : Window S) where
  -- the register at base and stride of the window is at home there
  home : (base stride : ℕ) → base ≡ w.place.base → stride ≡ w.place.stride → (k : ℕ) → k < 8 → slot w (register base stride k) ≡ Some k
  home base stride f g k l =
      ap₂ (λ b n. slot w (register b n k)) f g ∙ own_slot w.place.base w.place.stride k w.place.apart l

  -- at places of any kind
  module _ {P : Type 0} (base stride : P → ℕ) (p : P) (f : base p ≡ w.place.base) (g : stride p ≡ w.place.stride) where
    agrees : Agree (adapted base stride (windowed d)) d (through p w) (λ u. Unit {0}) (λ k. k < 8)
    agrees = record {
      gives = λ s i k l. simp (home (base p) (stride p) f g k l, lt-ltb k 8 l);
      next = λ s i k l. simp (home (base p) (stride p) f g k l, lt-ltb k 8 l) (refl, tt);
      write = λ s i k v l. simp (home (base p) (stride p) f g k l, lt-ltb k 8 l) (refl, tt);
    }

    shown : ActsAs (adapted base stride (windowed d)) d (through p w) w.backend
    shown = alike _ _ _ _ agrees w.backend tt

  pub shows : Shows d w
  shows = record {
    mmio_adapter = λ p f g. shown (λ q. q.base) (λ q. q.stride) p f g;
    port_adapter = λ p f g. shown (λ q. q.base) (λ q. 1) p f (sym g);
    elsewhere = λ a none.
        let e = no_slot w.place.base w.place.stride a none in
        record {
          gives = ap (λ o. option_map_or (λ k. reads d w.backend k) o 0xFF) e;
          next = ap (λ o. record { place = w.place; backend = option_map_or (λ k. moves d w.backend k) o w.backend }) e;
          write = λ v. ap (λ o. record { place = w.place; backend = option_map_or (λ k. writes d w.backend k v) o w.backend }) e;
        };
  }
