-- A pair of spaces: addresses below a boundary belong to the first, the others to the second.
use Rattle.std.specs.Prelude.{◌<◌, ◌≤◌, cond, nat_lt}
use Rattle.backends.specs.Space.{Bus}
use Rattle.backends.specs.Place.{register}
use Rattle.backends.specs.Alike.{ActsAs}
use Rattle.backends.specs.Adapters.{mapped, ported}
use Rattle.backends.specs.declared.place.MmioPlace.{MmioPlace}
use Rattle.backends.specs.declared.place.PortPlace.{PortPlace}
use Rattle.backends.specs.declared.adapter.Adapter.{Adapter}
use Rattle.backends.specs.declared.pair.Pair.{Pair}

-- the pair with another state of one side
abbrev pub with_first : {A B : Type 0} → Pair A B → A → Pair A B
with_first w x = record { boundary = w.boundary; first = x; second = w.second }

abbrev pub with_second : {A B : Type 0} → Pair A B → B → Pair A B
with_second w y = record { boundary = w.boundary; first = w.first; second = y }

-- each address means the same in its side as in the pair
abbrev pub paired : {A B : Type 0} → Bus A → Bus B → Bus (Pair A B)
paired x y = record {
  reader = record {
    gives = λ w a. cond (nat_lt a w.boundary) (x.reader.gives w.first a) (y.reader.gives w.second a);
    next = λ w a. cond (nat_lt a w.boundary) (with_first w (x.reader.next w.first a)) (with_second w (y.reader.next w.second a));
  };
  write = λ w a v. cond (nat_lt a w.boundary) (with_first w (x.write w.first a v)) (with_second w (y.write w.second a v));
}

-- an adapter over one side, seen over the pair
abbrev pub on_first : {P A B : Type 0} → Pair A B → Adapter P A → Adapter P (Pair A B)
on_first w m = record { place = m.place; space = with_first w m.space }

abbrev pub on_second : {P A B : Type 0} → Pair A B → Adapter P B → Adapter P (Pair A B)
on_second w m = record { place = m.place; space = with_second w m.space }

-- an adapter whose eight addresses lie on one side is what it would be over that side alone
pub record Splits {A B : Type 0} (x : Bus A) (y : Bus B) (w : Pair A B) : Type 0 where
  pub mmio_below : (p : MmioPlace) → register p.base p.stride 7 < w.boundary
      → ActsAs (mapped (paired x y)) (mapped x) (on_first w) (record { place = p; space = w.first })
  pub mmio_above : (p : MmioPlace) → w.boundary ≤ p.base
      → ActsAs (mapped (paired x y)) (mapped y) (on_second w) (record { place = p; space = w.second })
  pub port_below : (p : PortPlace) → register p.base 1 7 < w.boundary
      → ActsAs (ported (paired x y)) (ported x) (on_first w) (record { place = p; space = w.first })
  pub port_above : (p : PortPlace) → w.boundary ≤ p.base
      → ActsAs (ported (paired x y)) (ported y) (on_second w) (record { place = p; space = w.second })
