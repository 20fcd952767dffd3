-- A window: a backend's eight registers at the addresses of a place, and nothing elsewhere.
use Rattle.std.specs.Prelude.{◌≡◌, ℕ, Option}
use Rattle.std.specs.Option.{option_map_or}
use Rattle.backends.specs.Device.{Device, reads, moves, writes}
use Rattle.backends.specs.Space.{Bus}
use Rattle.backends.specs.Place.{offset_at, Elsewhere}
use Rattle.backends.specs.Alike.{ActsAs}
use Rattle.backends.specs.Adapters.{mapped, ported}
use Rattle.backends.specs.declared.place.MmioPlace.{MmioPlace}
use Rattle.backends.specs.declared.place.PortPlace.{PortPlace}
use Rattle.backends.specs.declared.adapter.Adapter.{Adapter}
use Rattle.backends.specs.declared.window.Window.{Window}

-- the offset that a window has for the address a, if any
abbrev pub slot : {S : Type 0} → Window S → ℕ → Option ℕ
slot w a = offset_at w.place.base w.place.stride a

abbrev pub windowed : {S : Type 0} → Device S → Bus (Window S)
windowed d = record {
  reader = record {
    gives = λ w a. option_map_or (λ k. reads d w.backend k) (slot w a) 0xFF;
    next = λ w a. record { place = w.place; backend = option_map_or (λ k. moves d w.backend k) (slot w a) w.backend };
  };
  write = λ w a v. record { place = w.place; backend = option_map_or (λ k. writes d w.backend k v) (slot w a) w.backend };
}

-- at the address a the space gives 0xFF, and nothing changes
pub record Silent {S : Type 0} (b : Bus S) (s : S) (a : ℕ) : Type 0 where
  pub gives : b.reader.gives s a ≡ 0xFF
  pub next : b.reader.next s a ≡ s
  pub write : (v : ℕ) → b.write s a v ≡ s

-- the window w, with its backend in the state u, under an adapter
abbrev pub through : {P S : Type 0} → P → Window S → S → Adapter P (Window S)
through p w u = record { place = p; space = record { place = w.place; backend = u } }

-- what a window shows: an adapter of equal base and stride is the backend; elsewhere is nothing
pub record Shows {S : Type 0} (d : Device S) (w : Window S) : Type 0 where
  pub mmio_adapter : (p : MmioPlace) → p.base ≡ w.place.base → p.stride ≡ w.place.stride
      → ActsAs (mapped (windowed d)) d (through p w) w.backend
  pub port_adapter : (p : PortPlace) → p.base ≡ w.place.base → w.place.stride ≡ 1
      → ActsAs (ported (windowed d)) d (through p w) w.backend
  pub elsewhere : (a : ℕ) → Elsewhere w.place.base w.place.stride a → Silent (windowed d) w a
