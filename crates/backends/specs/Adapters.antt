-- The adapters: a device whose register k is the byte of a space at base + k × stride.
use Rattle.std.specs.Prelude.{ℕ}
use Rattle.backends.specs.Device.{Device}
use Rattle.backends.specs.Space.{Bus}
use Rattle.backends.specs.Place.{register}
use Rattle.backends.specs.declared.adapter.Adapter.{Adapter}
use Rattle.backends.specs.declared.place.MmioPlace.{MmioPlace}
use Rattle.backends.specs.declared.place.PortPlace.{PortPlace}

-- at places of this kind, which have a base and a stride
abbrev pub adapted : {P S : Type 0} → (base stride : P → ℕ) → Bus S → Device (Adapter P S)
adapted base stride b = record {
  reader = record {
    gives = λ s k. b.reader.gives s.space (register (base s.place) (stride s.place) k);
    next = λ s k. record { place = s.place; space = b.reader.next s.space (register (base s.place) (stride s.place) k) };
  };
  write = λ s k v. record { place = s.place; space = b.write s.space (register (base s.place) (stride s.place) k) v };
}

-- in memory
abbrev pub mapped : {S : Type 0} → Bus S → Device (Adapter MmioPlace S)
mapped b = adapted (λ p. p.base) (λ p. p.stride) b

-- ports stand side by side
abbrev pub ported : {S : Type 0} → Bus S → Device (Adapter PortPlace S)
ported b = adapted (λ p. p.base) (λ p. 1) b
