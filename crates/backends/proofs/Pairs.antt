-- An adapter whose addresses lie on one side of a pair is what it would be over that side alone.
use Rattle.std.proofs.Common.{◌≡◌, ℕ, ◌+◌, ◌*◌, ◌<◌, ◌≤◌, true, false, ltb, refl, mul-le-mul_right, arith}
use Rattle.std.proofs.lemmas.Bool.{lt-ltb, le-ltb}
use Rattle.backends.specs.Space.{Bus}
use Rattle.backends.specs.Place.{register}
use Rattle.backends.specs.Alike.{ActsAs}
use Rattle.backends.specs.Adapters.{adapted}
use Rattle.backends.specs.Pair.{paired, Splits, on_first, on_second}
use Rattle.backends.specs.declared.pair.Pair.{Pair}
use Rattle.backends.proofs.Alike.{Agree, alike}

-- the addresses of a place below the boundary
below : (base stride boundary k : ℕ) → register base stride 7 < boundary → k < 8 → ltb (register base stride k) boundary ≡ true
below base stride boundary k h l =
    let m : k * stride ≤ 7 * stride = mul-le-mul_right stride (omega arith) in
    lt-ltb (base + k * stride) boundary (omega arith)

-- and above it
above : (base stride boundary k : ℕ) → boundary ≤ base → ltb (register base stride k) boundary ≡ false
above base stride boundary k h = le-ltb (base + k * stride) boundary (omega arith)

module _ {A B : Type 0} (x : Bus A) (y : Bus B) (w : Pair A B) {P : Type 0} (base stride : P → ℕ) where
  agrees_below : Agree (adapted base stride (paired x y)) (adapted base stride x) (on_first w)
      (λ m. register (base m.place) (stride m.place) 7 < w.boundary) (λ k. k < 8)
  agrees_below = record {
    gives = λ m i k l. simp (below (base m.place) (stride m.place) w.boundary k i l);
    next = λ m i k l. simp (below (base m.place) (stride m.place) w.boundary k i l) (refl, i);
    write = λ m i k v l. simp (below (base m.place) (stride m.place) w.boundary k i l) (refl, i);
  }

  agrees_above : Agree (adapted base stride (paired x y)) (adapted base stride y) (on_second w) (λ m. w.boundary ≤ base m.place) (λ k. k < 8)
  agrees_above = record {
    gives = λ m i k l. simp (above (base m.place) (stride m.place) w.boundary k i);
    next = λ m i k l. simp (above (base m.place) (stride m.place) w.boundary k i) (refl, i);
    write = λ m i k v l. simp (above (base m.place) (stride m.place) w.boundary k i) (refl, i);
  }

  -- at places of any kind
  splits_below : (p : P) → register (base p) (stride p) 7 < w.boundary
      → ActsAs (adapted base stride (paired x y)) (adapted base stride x) (on_first w) (record { place = p; space = w.first })
  splits_below p h = alike _ _ _ _ agrees_below (record { place = p; space = w.first }) h

  splits_above : (p : P) → w.boundary ≤ base p
      → ActsAs (adapted base stride (paired x y)) (adapted base stride y) (on_second w) (record { place = p; space = w.second })
  splits_above p h = alike _ _ _ _ agrees_above (record { place = p; space = w.second }) h

pub splits : {A B : Type 0} (x : Bus A) (y : Bus B) (w : Pair A B) → Splits x y w
splits x y w = record {
  mmio_below = splits_below x y w (λ p. p.base) (λ p. p.stride);
  mmio_above = splits_above x y w (λ p. p.base) (λ p. p.stride);
  port_below = splits_below x y w (λ p. p.base) (λ p. 1);
  port_above = splits_above x y w (λ p. p.base) (λ p. 1);
}
