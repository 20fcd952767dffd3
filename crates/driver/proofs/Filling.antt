-- Filling a buffer, character by character.
use Rattle.std.proofs.Common.{◌≡◌, ℕ, ◌+◌, ◌-◌, ◌<◌, ◌≤◌, List, [], ◌∷◌, ◌++◌, length, set, Some, None, Option, sym, ap, ◌∙◌, append_assoc, append-nil, arith}
use Rattle.std.proofs.lemmas.Grind.{flat_map-append}
use Rattle.std.proofs.lemmas.List.{length_push}
use Rattle.registers.specs.declared.error.Wait.{Wait}
use Rattle.registers.specs.Refusal.{Refusal}
use Rattle.backends.specs.Device.{Device}
use Rattle.driver.specs.declared.uart.Uart16550.{Uart16550}
use Rattle.driver.specs.Receives.{Try, took, missed, byte_of, got, misses, filled, Made, Fills, full, short, Received, ReceivedOne, FillsExactly, all, cut, WaitsFor, came, late}
use Rattle.driver.proofs.Tries.{made_append, misses_append, filled_more}

-- a missed try adds no byte
got_miss : (ts : List Try) (v : ℕ) → got (ts ++ (missed v ∷ [])) ≡ got ts
got_miss ts v = flat_map-append byte_of ts (missed v ∷ []) ∙ append-nil (got ts)

got_took : (ts : List Try) (v b : ℕ) → got (ts ++ (took v b ∷ [])) ≡ got ts ++ (b ∷ [])
got_took ts v b = flat_map-append byte_of ts (took v b ∷ [])

-- no more characters are taken than there are places
pub fills_within : (room : ℕ) (ts : List Try) → Fills room ts → length (got ts) ≤ room
fills_within room ts (full us z e) = omega arith
fills_within room ts (short us v z h) = let e = ap length (got_miss us v) in omega arith

module _ {S : Type 0} {d : Device S} {u v : Uart16550 S} {before buffer : List ℕ} {ts : List Try} (i : ℕ)
    (m : Made d u v ts) (n : length (got ts) ≡ i) (f : buffer ≡ filled (got ts) before) where
  -- the next place gets a character
  pub fill_more : {w : Uart16550 S} (b : ℕ) (q : ReceivedOne d v w (Some b)) → misses ts ≡ 0 → i < length before
      → (us : List Try) × Made d u w us × (misses us ≡ 0) × (length (got us) ≡ i + 1) × (set buffer i b ≡ filled (got us) before)
  fill_more b q z h = (
    ts ++ (took q.status b ∷ []),
    made_append m q.made,
    misses_append ts (took q.status b ∷ []) ∙ omega arith,
    ap length (got_took ts q.status b) ∙ length_push (got ts) b ∙ omega arith,
    rw (f, ← n) (filled_more (got ts) before b (omega arith) ∙ ap (λ g. filled g before) (sym (got_took ts q.status b))),
  )

  -- none is there: the buffer stays as it is
  pub fill_short : {w : Uart16550 S} {after : List ℕ} {count : ℕ} (q : ReceivedOne d v w None) → misses ts ≡ 0 → i < length before
      → after ≡ buffer → count ≡ i → Received d u w before after count
  fill_short q z h e c = record {
    ts = ts ++ (missed q.status ∷ []);
    made = made_append m q.made;
    fills = short ts q.status z (omega arith);
    buffer = e ∙ f ∙ ap (λ g. filled g before) (sym (got_miss ts q.status));
    answer = c ∙ sym n ∙ ap length (sym (got_miss ts q.status));
  }

-- Waiting for one character

-- a missed try more, of tries that took none
pub still_none : (ts : List Try) (v : ℕ) → got ts ≡ [] → got (ts ++ (missed v ∷ [])) ≡ []
still_none ts v e = got_miss ts v ∙ e

pub one_miss_more : (ts : List Try) (v : ℕ) → misses (ts ++ (missed v ∷ [])) ≡ misses ts + 1
one_miss_more ts v = misses_append ts (missed v ∷ []) ∙ omega arith

pub no_miss_more : (ts : List Try) (v b : ℕ) → misses (ts ++ (took v b ∷ [])) ≡ misses ts
no_miss_more ts v b = misses_append ts (took v b ∷ []) ∙ omega arith

-- Filling to the end

-- one character more, after a wait for it
pub exactly_more : (i n m : ℕ) (w : Wait) (ts us : List Try) (bs : List ℕ) → misses ts ≤ n → length (got ts) ≡ i → m ≡ n - misses ts
    → WaitsFor m w None us bs → FillsExactly (i + 1) n w None (ts ++ us)
exactly_more i n m w ts us bs h e f (came vs v b p q) =
    rw (← append_assoc)
    (all (ts ++ vs) v b (let x = misses_append ts vs in omega arith)
    (let x = ap length (flat_map-append byte_of ts vs) in let y = ap length q in simp (flat_map-append byte_of, q) (simp append-nil (omega arith))))

-- the wait ran out
pub exactly_cut : (room n m : ℕ) (w : Wait) (x : Refusal) (ts us : List Try) (bs : List ℕ) → misses ts ≤ n → length (got ts) < room → m ≡ n - misses ts
    → WaitsFor m w (Some x) us bs → FillsExactly room n w (Some x) (ts ++ us)
exactly_cut room n m w x ts us bs h e f (late vs v p q) =
    rw (← append_assoc)
    (cut (ts ++ vs) v (let x = misses_append ts vs in omega arith) (simp (flat_map-append byte_of, q) (simp append-nil e)))

-- what a wait got is what its tries took
pub waited_got : (m : ℕ) (w : Wait) (x : Option Refusal) (us : List Try) (bs : List ℕ) → WaitsFor m w x us bs → got us ≡ bs
waited_got m w x us bs (came vs v b p q) = got_took vs v b ∙ ap (λ g. g ++ (b ∷ [])) q
waited_got m w x us bs (late vs v p q) = got_miss vs v ∙ q

-- a wait that got a character stayed within its budget
pub waited_in_time : (m : ℕ) (w : Wait) (us : List Try) (bs : List ℕ) → WaitsFor m w None us bs → misses us ≤ m
waited_in_time m w us bs (came vs v b p q) = rw (no_miss_more vs v b) p

module _ (before buffer : List ℕ) (ts us : List Try) (i b : ℕ) (n : length (got ts) ≡ i) (f : buffer ≡ filled (got ts) before) where
  -- the place gets the byte that the wait got
  pub place_more : got us ≡ b ∷ [] → i < length before → (length (got (ts ++ us)) ≡ i + 1) × (set buffer i b ≡ filled (got (ts ++ us)) before)
  place_more e h =
      let a = flat_map-append byte_of ts us ∙ ap (λ g. got ts ++ g) e in (
        ap length a ∙ length_push (got ts) b ∙ omega arith,
        rw (f, ← n) (filled_more (got ts) before b (omega arith) ∙ ap (λ g. filled g before) (sym a)),
      )

  -- the place keeps what it has
  pub place_same : got us ≡ [] → (length (got (ts ++ us)) ≡ i) × (buffer ≡ filled (got (ts ++ us)) before)
  place_same e =
      let a = flat_map-append byte_of ts us ∙ ap (λ g. got ts ++ g) e ∙ append-nil (got ts) in
      (ap length a ∙ n, f ∙ ap (λ g. filled g before) (sym a))
