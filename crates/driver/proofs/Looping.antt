-- The parts of the loopback test, one after the other.
use Rattle.std.proofs.Common.{◌≡◌, ℕ, suc, ◌+◌, ◌-◌, ◌≤◌, Bool, true, false, cond, List, [], ◌∷◌, ◌++◌, length, EachIndex, get_or, take, drop, Some, None, Option, sym, refl, ap, ◌∙◌, subst, append-nil, arith, length-append}
use lib.Bits.{bit_and}
use Rattle.std.proofs.lemmas.Grind.{flat_map-append}
use Rattle.std.proofs.lemmas.List.{drop_all, get_or-map}
use Rattle.std.proofs.lemmas.List.Sums.{sum_by-append}
use Rattle.registers.specs.declared.error.Wait.{Wait}
use Rattle.registers.specs.declared.error.Wait.TheVariants.{TestByte, TestMessageSent, TestMessageReceived}
use Rattle.registers.specs.Refusal.{Refusal, refusal, amount}
use Rattle.backends.specs.Device.{Device, Runs}
use Rattle.driver.specs.declared.uart.Uart16550.{Uart16550}
use Rattle.driver.specs.Kept.{Kept, kept}
use Rattle.driver.specs.Traces.{noting}
use Rattle.driver.specs.Receives.{WaitsFor, came, Try, took, missed, byte_of, tries, statuses, got, misses, filled, FillsExactly, no_room, all as filled_all, cut as filled_cut, ReceivedExactly, Made as Tried}
use Rattle.driver.specs.Sends.{Sent, taken, Attempt, attempts, line_statuses, modem_statuses, refusals, Attempted, wrote, refused, Attempts, SendsExactly, all, cut, SentExactly, Made}
use Rattle.driver.specs.Loopback.{Part, drained, offered, sent, heard, part_accesses, part_lines, part_modems, part_wasted, accesses, lines_of, modems_of, wasted, back, masked, settings, test_byte, data_mask, ByteTested, not_taken, never_back, another, the_same, Echoed, not_sent, all_sent, Done, Within}
use Rattle.driver.proofs.Runs.{runs_append}
use Rattle.driver.proofs.Tries.{noting_append, misses_append}

-- these parts were done
pub record Moved {S : Type 0} (d : Device S) (old new : Uart16550 S) (ps : List Part) : Type 0 where
  pub ran : Runs d (accesses ps) old.backend new.backend
  pub keeps : kept new ≡ noting (kept old) (lines_of ps) (modems_of ps)

pub moved_none : {S : Type 0} {d : Device S} {u : Uart16550 S} → Moved d u u []
moved_none = record { ran = refl; keeps = refl }

pub moved_append : {S : Type 0} {d : Device S} {u v w : Uart16550 S} {ps qs : List Part} → Moved d u v ps → Moved d v w qs → Moved d u w (ps ++ qs)
moved_append {d = d} {u = u} {v = v} {w = w} {ps = ps} {qs = qs} p q = record {
  ran = subst (λ xs. Runs d xs u.backend w.backend) (sym (flat_map-append part_accesses ps qs)) (runs_append d (accesses ps) (accesses qs) u.backend v.backend w.backend p.ran q.ran);
  keeps = q.keeps ∙ ap (λ j. noting j (lines_of qs) (modems_of qs)) p.keeps ∙ noting_append (kept u) (lines_of ps) (modems_of ps) (lines_of qs) (modems_of qs)
      ∙ ap (λ l. noting (kept u) l (modems_of ps ++ modems_of qs)) (sym (flat_map-append part_lines ps qs))
      ∙ ap (λ l. noting (kept u) (lines_of (ps ++ qs)) l) (sym (flat_map-append part_modems ps qs));
}

module _ {S : Type 0} {d : Device S} {u v : Uart16550 S} where
  -- one part
  pub one_heard : {ts : List Try} → Tried d u v ts → Moved d u v (heard ts ∷ [])
  one_heard {ts = ts} m = record {
    ran = subst (λ xs. Runs d xs u.backend v.backend) (sym (append-nil (tries ts))) m.ran;
    keeps = m.keeps ∙ ap (λ l. noting (kept u) l []) (sym (append-nil (statuses ts)));
  }

  pub one_drained : {ts : List Try} → Tried d u v ts → Moved d u v (drained ts ∷ [])
  one_drained {ts = ts} m = record {
    ran = subst (λ xs. Runs d xs u.backend v.backend) (sym (append-nil (tries ts))) m.ran;
    keeps = m.keeps ∙ ap (λ l. noting (kept u) l []) (sym (append-nil (statuses ts)));
  }

  pub one_sent : {xs : List Attempt} → Made d u v xs → Moved d u v (sent xs ∷ [])
  one_sent {xs = xs} m = record {
    ran = subst (λ ys. Runs d ys u.backend v.backend) (sym (append-nil (attempts xs))) m.ran;
    keeps = m.keeps ∙ ap (λ l. noting (kept u) l (modem_statuses xs)) (sym (append-nil (line_statuses xs)))
        ∙ ap (λ l. noting (kept u) (line_statuses xs ++ []) l) (sym (append-nil (modem_statuses xs)));
  }

  pub one_offered : (a : Attempt) → Made d u v (a ∷ []) → Moved d u v (offered a ∷ [])
  one_offered a m = record {
    ran = subst (λ xs. Runs d xs u.backend v.backend) (sym (append-nil (attempts (a ∷ [])))) m.ran;
    keeps = m.keeps ∙ ap (λ l. noting (kept u) l (modem_statuses (a ∷ []))) (sym (append-nil (line_statuses (a ∷ []))))
        ∙ ap (λ l. noting (kept u) (line_statuses (a ∷ []) ++ []) l) (sym (append-nil (modem_statuses (a ∷ []))));
  }

  pub done : {P : List Part → Type 0} {a b : ℕ} {ps : List Part} → Moved d u v ps → P ps → b ≡ a + wasted ps → Done d u v P a b
  done {ps = ps} m h e = record { parts = ps; holds = h; ran = m.ran; keeps = m.keeps; counted = e }

  pub moved : {P : List Part → Type 0} {a b : ℕ} (p : Done d u v P a b) → Moved d u v p.parts
  moved p = record { ran = p.ran; keeps = p.keeps }

  -- a step whose parts have another property too
  pub done_as : {P R : List Part → Type 0} {a b : ℕ} → Done d u v P a b → ((ps : List Part) → P ps → R ps) → Done d u v R a b
  done_as p f = done (moved p) (f p.parts p.holds) p.counted

-- one step, and then another with what is left of the budget
pub done_then : {S : Type 0} {d : Device S} {u v w : Uart16550 S} {P : List Part → Type 0} (Q : Kept → ℕ → List Part → Type 0) {R : List Part → Type 0} {n n' a b c : ℕ}
    → Done d u v P a b → Done d v w (Q (settings (kept v)) (n' - b)) b c → n' ≡ n
    → ((ps qs : List Part) → P ps → Q (settings (kept u)) (n - a - wasted ps) qs → R (ps ++ qs)) → Done d u w R a c
done_then {u = u} {v = v} {P = P} Q {R = R} {n = n} {n' = n'} {a = a} {b = b} {c = c} p q e f =
    let i : n' - b ≡ n - a - wasted p.parts = omega (arith, p.counted) in
    let w = sum_by-append part_wasted p.parts q.parts in
    done (moved_append (moved p) (moved q))
    (f p.parts q.parts p.holds
    (subst (λ h. Q (settings (kept u)) h q.parts) i (subst (λ j. Q j (n' - b) q.parts) (ap settings p.keeps) q.holds)))
    (omega (arith, p.counted, q.counted))

-- saved bits do not change what an attempt may do
pub one_settings : (k : Kept) (buffer : List ℕ) (a : Attempt) → Attempted k buffer a → Attempted (settings k) buffer a
one_settings k buffer a (wrote q h) = wrote q h
one_settings k buffer a (refused q x h) = refused q x h

attempts_settings : (k : Kept) (buffer : List ℕ) (xs : List Attempt) → Attempts k buffer xs → Attempts (settings k) buffer xs
attempts_settings k buffer [] h = tt
attempts_settings k buffer (a ∷ xs) h = (h.0, one_settings k buffer a h.1, attempts_settings k (drop (length a.bytes) buffer) xs h.2)

sends_settings : (k : Kept) (buffer : List ℕ) (n : ℕ) (w : Wait) (x : Option Refusal) (xs : List Attempt) → SendsExactly k buffer n w x xs → SendsExactly (settings k) buffer n w x xs
sends_settings k buffer n w x xs (all ys p q) = all ys p q
sends_settings k buffer n w x xs (cut ys q p) = cut ys q p

-- Echoes

-- a buffer that was filled to its end
fills_length : (room n : ℕ) (w : Wait) (ts : List Try) → FillsExactly room n w None ts → length (got ts) ≡ room
fills_length room n w ts (no_room e) = sym e
fills_length room n w ts (filled_all us v b p q) = let e = ap length (flat_map-append byte_of us (took v b ∷ [])) in let f = length-append (got us) (b ∷ []) in omega arith

pub fills_within : (room m n b c : ℕ) (w : Wait) (x : Option Refusal) (ts : List Try) → FillsExactly room m w x ts → c - b ≡ misses ts → b ≤ c → b ≤ n → m ≡ n - b → Within x c n
fills_within room m n b c w x ts (no_room e) f g h i = omega arith
fills_within room m n b c w x ts (filled_all us v z p q) f g h i = let e = misses_append us (took v z ∷ []) in omega arith
fills_within room m n b c w x ts (filled_cut us v p q) f g h i = tt

pub sends_within : (k : Kept) (bytes : List ℕ) (m n a b : ℕ) (w : Wait) (x : Option Refusal) (xs : List Attempt) → SendsExactly k bytes m w x xs → b - a ≡ refusals xs → a ≤ b → a ≤ n → m ≡ n - a → Within x b n
sends_within k bytes m n a b w x xs (all ys p q) f g h i = omega arith
sends_within k bytes m n a b w x xs (cut ys q p) f g h i = tt

pub filled_whole : (bytes buffer : List ℕ) → length bytes ≡ length buffer → filled bytes buffer ≡ bytes
filled_whole bytes buffer e = ap (λ r. bytes ++ r) (drop_all (length bytes) buffer (omega arith)) ∙ append-nil bytes

-- as many bytes come back as were sent
pub echoed_length : (k : Kept) (n : ℕ) (bytes : List ℕ) (ps : List Part) → Echoed k n bytes None ps → length (back ps) ≡ length bytes
echoed_length k n bytes ps (all_sent x tried ts p q o r) = ap length (append-nil (got ts)) ∙ fills_length _ _ _ ts r

pub not_none : {X : Type 0} (x : Refusal) → Some x ≡ None → X
not_none x e = let z : ◌≡◌ {A = ℕ} 0 1 = cc in absurd (omega arith)

whole : (x : Option Refusal) (room n : ℕ) (w : Wait) (ts : List Try) (before after : List ℕ) → FillsExactly room n w x ts → room ≡ length before → after ≡ filled (got ts) before
    → x ≡ None → after ≡ got ts ++ []
whole None room n w ts before after h e f z = f ∙ filled_whole (got ts) before (fills_length room n w ts h ∙ e) ∙ sym (append-nil (got ts))
whole (Some x) room n w ts before after h e f z = not_none x z

module _ {S : Type 0} {d : Device S} {u v : Uart16550 S} {bytes : List ℕ} (n : ℕ) {a b i : ℕ} where
  pub echo_cut : {x : Refusal} {after : List ℕ} → SentExactly d u v bytes (n - a) TestMessageSent (Some x) (b - a) i → a ≤ b
      → Done d u v (λ ps. Echoed (settings (kept u)) (n - a) bytes (Some x) ps × (Some x ≡ None → after ≡ back ps)) a b
  echo_cut {x = x} q h = done (one_sent q.made)
      (not_sent x q.tried (attempts_settings (kept u) bytes q.tried q.sound) (sends_settings (kept u) bytes _ _ _ q.tried q.sends), λ e. not_none x e)
      (omega (arith, q.counted))

  pub echo_whole : {w : Uart16550 S} {n' c j : ℕ} {x : Option Refusal} {before after : List ℕ} → SentExactly d u v bytes (n - a) TestMessageSent None (b - a) i → a ≤ b
      → ReceivedExactly d v w (n' - b) TestMessageReceived before after x (c - b) j → b ≤ c → n' ≡ n → length before ≡ length bytes
      → Done d u w (λ ps. Echoed (settings (kept u)) (n - a) bytes x ps × (x ≡ None → after ≡ back ps)) a c
  echo_whole {n' = n'} {x = x} {before = before} {after = after} q h r g e f =
      let z : n' - b ≡ n - a - refusals q.tried = omega (arith, q.counted) in
      done (moved_append (one_sent q.made) (one_heard r.made)) (
        all_sent x q.tried r.ts (attempts_settings (kept u) bytes q.tried q.sound) (sends_settings (kept u) bytes _ _ _ q.tried q.sends) r.made.sound
            (subst (λ y. FillsExactly y (n - a - refusals q.tried) TestMessageReceived x r.ts) f (subst (λ y. FillsExactly (length before) y TestMessageReceived x r.ts) z r.fills)),
        whole x (length before) (n' - b) _ r.ts before after r.fills refl r.buffer,
      )
      (omega (arith, q.counted, r.counted))

-- The drain

pub drain_more : (ts : List Try) (v b : ℕ) → misses ts ≡ 0 → (misses (ts ++ (took v b ∷ [])) ≡ 0) × (length (got (ts ++ (took v b ∷ []))) ≡ length (got ts) + 1)
drain_more ts v b e = (
  misses_append ts (took v b ∷ []) ∙ omega arith,
  ap length (flat_map-append byte_of ts (took v b ∷ [])) ∙ length-append (got ts) (b ∷ []) ∙ omega arith,
)

pub got_miss : (ts : List Try) (v : ℕ) → length (got (ts ++ (missed v ∷ []))) ≡ length (got ts)
got_miss ts v = ap length (flat_map-append byte_of ts (missed v ∷ []) ∙ append-nil (got ts))

-- The test byte

alone : (xs : List Attempt) → length xs ≡ 1 → (a : Attempt) × (xs ≡ a ∷ [])
alone [] e = absurd (omega arith)
alone (a ∷ []) e = (a, refl)
alone (a ∷ (b ∷ xs)) e = absurd (omega arith)

take_one : (f : Bool) (b : ℕ) → take (cond f 16 1) (b ∷ []) ≡ b ∷ []
take_one true b = refl
take_one false b = refl

-- an attempt on one byte, by how many it took
one_taken : (k : Kept) (b : ℕ) (a : Attempt) → Attempted k (b ∷ []) a → 1 ≡ length (a.bytes ++ []) → a.bytes ≡ b ∷ []
one_taken k b a (wrote q h) e = take_one k.fifo b
one_taken k b a (refused q x h) e = absurd (omega arith)

none_taken : (xs : List ℕ) → 0 ≡ length (xs ++ []) → xs ≡ []
none_taken [] e = refl
none_taken (x ∷ xs) e = absurd (omega arith)

pub waited_within : (m n a b : ℕ) (w : Wait) (ts : List Try) (bs : List ℕ) → WaitsFor m w None ts bs → b ≡ a + misses ts → a ≤ n → m ≡ n - a → b ≤ n
waited_within m n a b w ts bs (came us v z p q) e f g = let h = misses_append us (took v z ∷ []) in omega arith

module _ {S : Type 0} {d : Device S} {u v : Uart16550 S} where
  pub byte_refused : {n a : ℕ} {x : Refusal} → Some x ≡ Some (refusal 11 []) → Sent d u v (test_byte ∷ []) 0
      → Done d u v (ByteTested (settings (kept u)) n (Some (refusal 15 (amount x.number ∷ [])))) a a
  byte_refused {x = x} e q =
      let z : x ≡ refusal 11 [] = cc in
      let o = alone q.tried (omega (arith, q.one)) in
      rw z (done (one_offered o.0 (subst (λ y. Made d u v y) o.1 q.made))
      (not_taken o.0 (one_settings (kept u) _ o.0 (subst (λ y. Attempts (kept u) (test_byte ∷ []) y) o.1 q.sound).1)
      (none_taken o.0.bytes (subst (λ y. 0 ≡ length (taken y)) o.1 q.answer)))
      (omega arith))

  module _ (q : Sent d u v (test_byte ∷ []) 1) {w : Uart16550 S} {ts : List Try} (r : Tried d v w ts) where
    one : (x : Attempt) × (q.tried ≡ x ∷ [])
    one = alone q.tried (omega (arith, q.one))

    offer : Attempted (kept u) (test_byte ∷ []) one.0
    offer = (subst (λ y. Attempts (kept u) (test_byte ∷ []) y) one.1 q.sound).1

    took_it : one.0.bytes ≡ test_byte ∷ []
    took_it = one_taken (kept u) test_byte one.0 offer (subst (λ y. 1 ≡ length (taken y)) one.1 q.answer)

    with_byte : {P : List Part → Type 0} {a b : ℕ} → b ≡ a + misses ts → P (offered one.0 ∷ heard ts ∷ []) → Done d u w P a b
    with_byte e h = done (moved_append (one_offered one.0 (subst (λ y. Made d u v y) one.1 q.made)) (one_heard r)) h (omega arith)

    pub byte_late : {n a b : ℕ} {x : Refusal} → b ≡ a + misses ts → WaitsFor n TestByte (Some x) ts [] → Done d u w (ByteTested (settings (kept u)) n (Some x)) a b
    byte_late {x = x} e z = with_byte e (never_back one.0 (one_settings (kept u) _ one.0 offer) took_it x ts r.sound z)

    bits : w.config.data_bits ≡ u.config.data_bits
    bits =
        let p = r.keeps in let p' = q.made.keeps in
        ap (λ j. j.config.data_bits) p ∙ ap (λ j. j.config.data_bits) p'

    module _ {n a b : ℕ} (e : b ≡ a + misses ts) (z mask : ℕ) (f : mask ≡ data_mask w.config.data_bits) (x : WaitsFor n TestByte None ts (z ∷ [])) where
      pub byte_other : (bit_and z mask ≡ bit_and test_byte mask → ⊥) → Done d u w (ByteTested (settings (kept u)) n (Some (refusal 16 (amount z ∷ [])))) a b
      byte_other h = with_byte e (another one.0 (one_settings (kept u) _ one.0 offer) took_it ts z r.sound x
          (subst (λ y. bit_and z y ≡ bit_and test_byte y → ⊥) (f ∙ ap data_mask bits) h))

      pub byte_same : bit_and z mask ≡ bit_and test_byte mask → Done d u w (ByteTested (settings (kept u)) n None) a b
      byte_same h = with_byte e (the_same one.0 (one_settings (kept u) _ one.0 offer) took_it ts z r.sound x
          (subst (λ y. bit_and z y ≡ bit_and test_byte y) (f ∙ ap data_mask bits) h))

-- Bytes of which only some bits count

-- bytes with the same bits at each index are the same under the mask
pub masked_from_each : (m : ℕ) (xs ys : List ℕ) → length xs ≡ length ys → EachIndex xs (λ i. bit_and (get_or xs i 0) m ≡ bit_and (get_or ys i 0) m)
    → masked m xs ≡ masked m ys
masked_from_each m [] [] e f = refl
masked_from_each m [] (y ∷ ys) e f = absurd (omega arith)
masked_from_each m (x ∷ xs) [] e f = absurd (omega arith)
masked_from_each m (x ∷ xs) (y ∷ ys) e f =
    ap (λ b. b ∷ masked m xs) (f 0 (omega arith)) ∙ ap (λ l. bit_and y m ∷ l) (masked_from_each m xs ys (omega arith) (λ i h. f (suc i) (omega arith)))

pub each_from_masked : (m : ℕ) (xs ys : List ℕ) → length xs ≡ length ys → masked m xs ≡ masked m ys
    → EachIndex xs (λ i. bit_and (get_or xs i 0) m ≡ bit_and (get_or ys i 0) m)
each_from_masked m xs ys n e i h =
    let b : ℕ → ℕ = λ v. bit_and v m in
    sym (get_or-map b xs i 0 0 h) ∙ ap (λ l. get_or l i 0) e ∙ get_or-map b ys i 0 0 (omega arith)
