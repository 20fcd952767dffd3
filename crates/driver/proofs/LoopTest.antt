-- The steps of the loopback test, put together.
use Rattle.std.proofs.Common.{◌≡◌, ℕ, ◌+◌, ◌-◌, ◌<◌, ◌≤◌, false, List, [], ◌∷◌, ◌++◌, length, get_or, set, Some, None, Option, sym, refl, ap, ◌∙◌, subst, arith}
use lib.Bits.{bit_or}
use Rattle.std.proofs.lemmas.Grind.{flat_map-append}
use Rattle.std.proofs.lemmas.List.{length_push}
use Rattle.registers.specs.declared.error.Wait.TheVariants.{Transmitter}
use Rattle.registers.specs.Refusal.{Refusal, refusal, during}
use Rattle.backends.specs.Device.{Device, Runs, rd, wr}
use Rattle.driver.specs.declared.uart.Uart16550.{Uart16550}
use Rattle.driver.specs.Kept.{Kept, kept, with_fifo, with_saved}
use Rattle.driver.specs.Traces.{Ran, FifoSetUp, polls, noting, StayedBusy, SeenEmpty}
use Rattle.driver.specs.Getters.{Looked}
use Rattle.driver.specs.Receives.{filled}
use Rattle.driver.specs.Loopback.{Part, part_back, accesses, lines_of, modems_of, wasted, back, masked, data_mask, test_message, settings, Drains, ByteTested, Echoed, Singly, next, MessageEchoed, singly, singly_cut, MessageTested, message_back, other_message, Looped, in_byte, in_message, restores, LoopTested, stayed_busy, looped, Done, InLoop, Left}
use Rattle.driver.proofs.Runs.{runs_append}
use Rattle.driver.proofs.Tries.{filled_more}
use Rattle.driver.proofs.Looping.{done_then, done_as, echoed_length, filled_whole, not_none}

single : (xs : List ℕ) → length xs ≡ 1 → xs ≡ get_or xs 0 0 ∷ []
single [] e = absurd (omega arith)
single (x ∷ []) e = refl
single (x ∷ (y ∷ xs)) e = absurd (omega arith)

-- The message byte by byte

module _ {S : Type 0} {d : Device S} {u v w : Uart16550 S} (n : ℕ) {n' a b c : ℕ} (i : ℕ) {before current : List ℕ}
    (p : Done d u v (λ ps. Singly (settings (kept u)) (n - a) i None ps × (length (back ps) ≡ i) × (current ≡ filled (back ps) before)) a b) where
  -- the next byte did not come back in time
  pub cut_singly : {x : Refusal} {one after : List ℕ} → i < length test_message → u.fifo_enabled ≡ false → n' ≡ n
      → Done d v w (λ ps. Echoed (settings (kept v)) (n' - b) (get_or test_message i 0 ∷ []) (Some x) ps × (Some x ≡ None → one ≡ back ps)) b c
      → Done d u w (λ ps. MessageEchoed (settings (kept u)) (n - a) (Some x) ps × (Some x ≡ None → after ≡ back ps)) a c
  cut_singly {x = x} {one = one} h f e q =
      done_then (λ j o ps. Echoed j o (get_or test_message i 0 ∷ []) (Some x) ps × (Some x ≡ None → one ≡ back ps)) p q e
      (λ ps qs y z. (singly_cut (i + 1) x (ps ++ qs) f (next i (Some x) ps qs y.0 h z.0), λ w. not_none x w))

  -- it came back
  pub more_singly : {one : List ℕ} → i < length test_message → i < length before → n' ≡ n
      → Done d v w (λ ps. Echoed (settings (kept v)) (n' - b) (get_or test_message i 0 ∷ []) None ps × (◌≡◌ {A = Option Refusal} None None → one ≡ back ps)) b c
      → Done d u w (λ ps. Singly (settings (kept u)) (n - a) (i + 1) None ps × (length (back ps) ≡ i + 1) × (set current i (get_or one 0 0) ≡ filled (back ps) before)) a c
  more_singly {one = one} h g e q =
      done_then (λ j o ps. Echoed j o (get_or test_message i 0 ∷ []) None ps × (◌≡◌ {A = Option Refusal} None None → one ≡ back ps)) p q e
      (λ ps qs y z.
      let t = get_or one 0 0 in
      let r : back (ps ++ qs) ≡ back ps ++ (t ∷ []) = flat_map-append part_back ps qs
      ∙ ap (λ w. back ps ++ w) (single (back qs) (echoed_length _ _ _ qs z.0) ∙ ap (λ w. get_or w 0 0 ∷ []) (sym (z.1 refl))) in (
        next i None ps qs y.0 h z.0,
        ap length r ∙ length_push (back ps) t ∙ ap (λ j. j + 1) y.1,
        ap (λ w. set w i t) y.2 ∙ ap (λ j. set (filled (back ps) before) j t) (sym y.1) ∙ filled_more (back ps) before t (omega arith)
            ∙ ap (λ w. filled w before) (sym r),
      ))

-- all of them came back
pub all_singly : {S : Type 0} {d : Device S} {u v : Uart16550 S} (n : ℕ) {a b : ℕ} (i : ℕ) {before current : List ℕ} → i ≡ length test_message → length before ≡ i → u.fifo_enabled ≡ false
    → Done d u v (λ ps. Singly (settings (kept u)) (n - a) i None ps × (length (back ps) ≡ i) × (current ≡ filled (back ps) before)) a b
    → Done d u v (λ ps. MessageEchoed (settings (kept u)) (n - a) None ps × (◌≡◌ {A = Option Refusal} None None → current ≡ back ps)) a b
all_singly {u = u} n {a = a} i {before = before} e f h p = done_as p
    (λ ps y. (singly ps h (subst (λ j. Singly (settings (kept u)) (n - a) j None ps) e y.0), λ w. y.2 ∙ filled_whole (back ps) before (y.1 ∙ sym f)))

-- The message compared

module _ {S : Type 0} {d : Device S} {u v : Uart16550 S} {n a b : ℕ} (mask : ℕ) {read : List ℕ}
    (p : Done d u v (λ ps. MessageEchoed (settings (kept u)) n None ps × (◌≡◌ {A = Option Refusal} None None → read ≡ back ps)) a b)
    (f : mask ≡ data_mask v.config.data_bits) where
  same_mask : mask ≡ data_mask u.config.data_bits
  same_mask = f ∙ ap (λ j. data_mask j.config.data_bits) p.keeps

  pub other_came : {place : List ℕ} → (masked mask read ≡ masked mask test_message → ⊥) → Done d u v (MessageTested (settings (kept u)) n place (Some (refusal 17 [])) read) a b
  other_came {place = place} h = done_as p (λ ps y.
      subst (λ r. MessageTested (settings (kept u)) n place (Some (refusal 17 [])) r ps) (sym (y.1 refl))
      (other_message ps y.0 (subst (λ r. masked (data_mask u.config.data_bits) r ≡ masked (data_mask u.config.data_bits) test_message → ⊥) (y.1 refl)
      (subst (λ w. masked w read ≡ masked w test_message → ⊥) same_mask h))))

  pub same_came : {place : List ℕ} → masked mask read ≡ masked mask test_message → Done d u v (MessageTested (settings (kept u)) n place None place) a b
  same_came h = done_as p (λ ps y.
      message_back ps y.0 (subst (λ r. masked (data_mask u.config.data_bits) r ≡ masked (data_mask u.config.data_bits) test_message) (y.1 refl)
      (subst (λ w. masked w read ≡ masked w test_message) same_mask h)))

-- The three steps

-- what a drain and a byte that came back are
Ready : Kept → ℕ → List Part → Type 0
Ready k n rs = (ps : List Part) × (qs : List Part) × (rs ≡ ps ++ qs) × Drains n None ps × ByteTested k (n - wasted ps) None qs

module _ {S : Type 0} {d : Device S} {u v w : Uart16550 S} (n : ℕ) {n' a b c : ℕ}
    (p : Done d u v (Drains (n - a) None) a b) (e : n' ≡ n) where
  pub stopped_byte : {place : List ℕ} {x : Refusal} → Done d v w (ByteTested (settings (kept v)) (n' - b) (Some x)) b c → Done d u w (Looped (settings (kept u)) (n - a) place (Some x) place) a c
  stopped_byte {x = x} q = done_then (λ j o ps. ByteTested j o (Some x) ps) p q e (λ ps qs y z. in_byte x ps qs y z)

  ready : Done d v w (ByteTested (settings (kept v)) (n' - b) None) b c → Done d u w (Ready (settings (kept u)) (n - a)) a c
  unfolding Ready
  ready q = done_then (λ j o ps. ByteTested j o None ps) p q e (λ ps qs y z. (ps, qs, refl, y, z))

  pub all_three : {t : Uart16550 S} {n'' f : ℕ} {place : List ℕ} {x : Option Refusal} {after : List ℕ} → Done d v w (ByteTested (settings (kept v)) (n' - b) None) b c → n'' ≡ n
      → Done d w t (MessageTested (settings (kept w)) (n'' - c) place x after) c f → Done d u t (Looped (settings (kept u)) (n - a) place x after) a f
  unfolding Ready
  all_three {place = place} {x = x} {after = after} q g r =
      done_then (λ i o ps. MessageTested i o place x after ps) (ready q) r g
      (λ rs zs y z. subst (λ o. Looped (settings (kept u)) (n - a) place x after (o ++ zs)) (sym y.2)
      (in_message x after y.0 y.1 zs y.3 y.4 (subst (λ o. MessageTested (settings (kept u)) (n - a - wasted o) place x after zs) y.2 z)))

-- after the FIFOs were set up
pub in_loop : {S : Type 0} {d : Device S} {u v w : Uart16550 S} {n : ℕ} {place after : List ℕ} {x : Option Refusal} {a b : ℕ}
    → Ran d (FifoSetUp u.config.fifo_trigger_level v.fifo_enabled) u.backend v.backend → kept v ≡ with_fifo (kept u) v.fifo_enabled
    → Done d v w (Looped (settings (kept v)) n place x after) a b → InLoop d u w n place after x a b
in_loop {d = d} {u = u} {v = v} {w = w} {n = n} {place = place} {after = after} {x = x} f e p = record {
  on = v.fifo_enabled;
  setting = f.0;
  parts = p.parts;
  set_up = f.1;
  holds = subst (λ i. Looped (settings i) n place x after p.parts) e p.holds;
  ran = runs_append d f.0 (accesses p.parts) u.backend v.backend w.backend f.2 p.ran;
  keeps = p.keeps ∙ ap (λ i. noting i (lines_of p.parts) (modems_of p.parts)) e;
  counted = p.counted;
}

-- The whole test

module _ {S : Type 0} {d : Device S} {u₀ u₁ u₂ : Uart16550 S} (n : ℕ) {mcr ier : ℕ} (p : Looked d u₀ u₁ 4 mcr) (q : Looked d u₁ u₂ 1 ier) where
  start : Runs d (rd 4 mcr ∷ rd 1 ier ∷ []) u₀.backend u₂.backend
  start = runs_append d (rd 4 mcr ∷ []) (rd 1 ier ∷ []) u₀.backend u₁.backend u₂.backend p.ran q.ran

  same : kept u₂ ≡ kept u₀
  same = q.keeps ∙ p.keeps

  pub too_busy : {u₃ : Uart16550 S} {place : List ℕ} {spent total : ℕ} → spent ≡ 0 → total ≡ n + 1 → StayedBusy d u₂ u₃ spent total
      → Ran d (LoopTested n (kept u₀) place (Some (refusal 9 (during Transmitter ∷ []))) total place (kept u₃)) u₀.backend u₃.backend
  too_busy {u₃ = u₃} {place = place} {total = total} z e b =
      let vs = b.polled in
      let c : total ≡ length vs = omega (arith, b.count) in
      let xs = rd 4 mcr ∷ rd 1 ier ∷ polls vs in (
        xs,
        subst (λ f. LoopTested n (kept u₀) place (Some (refusal 9 (during Transmitter ∷ []))) f place (kept u₃) xs) (sym c)
            (subst (λ j. LoopTested n (kept u₀) place (Some (refusal 9 (during Transmitter ∷ []))) (length vs) place j xs) (sym (b.keeps ∙ ap (λ j. noting j vs []) same))
            (stayed_busy mcr ier vs b.busy (omega arith))),
        runs_append d (rd 4 mcr ∷ rd 1 ier ∷ []) (polls vs) u₀.backend u₂.backend u₃.backend start b.ran,
      )

  module _ {u₃ u₄ u₅ u₆ : Uart16550 S} {spent used : ℕ} (b : SeenEmpty d u₂ u₃ spent used) (modem : ℕ)
      (r : Runs d (rd 6 modem ∷ wr 1 0 ∷ wr 4 0x10 ∷ []) u₃.backend u₄.backend) (g : kept u₄ ≡ noting (kept u₃) [] (modem ∷ []))
      (n' : ℕ) {place after : List ℕ} {x : Option Refusal} {total : ℕ} (o : InLoop d u₄ u₅ (n' - used) place after x used total)
      (l : Left d u₅ u₆ mcr ier u₃.lsr_saved modem) where
    kept₃ : kept u₃ ≡ noting (kept u₀) (b.polled ++ (b.last ∷ [])) []
    kept₃ = b.keeps ∙ ap (λ j. noting j (b.polled ++ (b.last ∷ [])) []) same

    kept₄ : kept u₄ ≡ noting (noting (kept u₀) (b.polled ++ (b.last ∷ [])) []) [] (modem ∷ [])
    kept₄ = g ∙ ap (λ j. noting j [] (modem ∷ [])) kept₃

    -- what is kept when loop mode is left
    abbrev looped_kept : Kept
    looped_kept = noting (with_fifo (noting (noting (kept u₀) (b.polled ++ (b.last ∷ [])) []) [] (modem ∷ [])) o.on) (lines_of o.parts) (modems_of o.parts)

    kept₅ : kept u₅ ≡ looped_kept
    kept₅ = o.keeps ∙ ap (λ j. noting (with_fifo j o.on) (lines_of o.parts) (modems_of o.parts)) kept₄

    pub whole_test : spent ≡ 0 → used ≤ n → n' ≡ n → Ran d (LoopTested n (kept u₀) place x total after (kept u₆)) u₀.backend u₆.backend
    whole_test zero fits e =
        let ps = b.polled in
        let c : used ≡ length ps = omega (arith, b.count) in
        let f : n' - used ≡ n - length ps = omega arith in
        let h : total ≡ length ps + wasted o.parts = omega (arith, o.counted) in
        let seens = polls ps ++ (rd 5 b.last ∷ []) in
        let enter = rd 6 modem ∷ wr 1 0 ∷ wr 4 0x10 ∷ [] in
        let xs = ((((rd 4 mcr ∷ rd 1 ier ∷ []) ++ seens) ++ enter) ++ (o.setting ++ accesses o.parts)) ++ restores mcr ier l.modem in
        let k₆ = l.keeps ∙ ap (λ j. with_saved j u₃.lsr_saved (bit_or j.msr l.changes)) kept₅
        ∙ ap (λ j. with_saved looped_kept j.lsr (bit_or looped_kept.msr l.changes)) kept₃ in (
          xs,
          subst (λ i. LoopTested n (kept u₀) place x i after (kept u₆) xs) (sym h) (subst (λ j. LoopTested n (kept u₀) place x (length ps + wasted o.parts) after j xs) (sym k₆)
              (looped mcr ier ps b.last b.busy b.empty (omega arith) modem o.on o.setting
              (subst (λ j. FifoSetUp j.config.fifo_trigger_level o.on o.setting) kept₄ o.set_up) x after o.parts
              (subst (λ i. Looped (settings (with_fifo (kept u₀) o.on)) i place x after o.parts) f
              (subst (λ j. Looped (settings (with_fifo j o.on)) (n' - used) place x after o.parts) kept₄ o.holds))
              l.modem l.changes l.shown)),
          runs_append d ((((rd 4 mcr ∷ rd 1 ier ∷ []) ++ seens) ++ enter) ++ (o.setting ++ accesses o.parts)) (restores mcr ier l.modem) u₀.backend u₅.backend u₆.backend
              (runs_append d (((rd 4 mcr ∷ rd 1 ier ∷ []) ++ seens) ++ enter) (o.setting ++ accesses o.parts) u₀.backend u₄.backend u₅.backend
              (runs_append d ((rd 4 mcr ∷ rd 1 ier ∷ []) ++ seens) enter u₀.backend u₃.backend u₄.backend (runs_append d (rd 4 mcr ∷ rd 1 ier ∷ []) seens u₀.backend u₂.backend u₃.backend start b.ran) r) o.ran) l.ran,
        )
