-- An accepted init: the start of the law, and the set-up of the chip.
use Rattle.std.proofs.Common.{◌≡◌, ℕ, ◌/◌, ◌%◌, Bool, true, false, eqb, List, [], ◌∷◌, ◌++◌, Some, None, Option, sym, refl, ap, ◌∙◌, subst, append_assoc, append-nil, arith, lit<}
use lib.Bits.{bit_and}
use Rattle.registers.specs.declared.config.Config.{Config}
use Rattle.registers.specs.declared.fcr.FifoTriggerLevel.{FifoTriggerLevel}
use Rattle.registers.specs.declared.lcr.WordLength.{WordLength}
use Rattle.registers.specs.declared.lcr.WordLength.TheVariants.{FiveBits, SixBits, SevenBits, EightBits}
use Rattle.registers.specs.declared.lcr.Parity.{Parity}
use Rattle.registers.specs.declared.lcr.Parity.TheVariants.{Disabled, Odd, Even, Forced1, Forced0}
use Rattle.registers.specs.Fifo.{fifo_control}
use Rattle.registers.specs.Flags.{contains, divisor_access, fifos_on, loop_back}
use Rattle.registers.specs.Frame.{frame}
use Rattle.backends.specs.declared.access.Access.{Access}
use Rattle.backends.specs.Chip.{ChipState, Setup, Fifos, absent, off, on, is_on}
use Rattle.backends.specs.Device.{Device, Runs, rd, wr}
use Rattle.backends.specs.Rules.{KeepsRules, ShowsFifos, with_lcr, with_dll, with_dlm, with_fifos}
use Rattle.driver.specs.Kept.{Kept, with_config, with_fifo, with_saved}
use Rattle.driver.specs.Traces.{Probe, probe, Patterns, both_back, first_lost, second_lost, line_set_up, FifoSetUp, unwanted, asked, Discarded, all_read, none_left, one_read, polls, cleared, Opened, opened, Initialised, done}
use Rattle.driver.proofs.Runs.{runs_append}
use Rattle.ledger.specs.Law.{Start, SetUp, bytes}
use Rattle.ledger.proofs.Order.{within_same}
use Rattle.ledger.proofs.Setting as setting
use Rattle.ledger.proofs.Setting.{Set, turned}
use Rattle.ledger.proofs.Shown.{grown_same, shows_none}
use Rattle.ledger.proofs.Steps as steps
use Rattle.ledger.proofs.Steps.{At}

-- the frame byte leaves the divisor alone
pub frame_closed : (w : WordLength) (b : Bool) (p : Parity) → contains (frame w b p) divisor_access ≡ false
unfolding contains
frame_closed FiveBits true Disabled = refl
frame_closed FiveBits true Odd = refl
frame_closed FiveBits true Even = refl
frame_closed FiveBits true Forced1 = refl
frame_closed FiveBits true Forced0 = refl
frame_closed FiveBits false Disabled = refl
frame_closed FiveBits false Odd = refl
frame_closed FiveBits false Even = refl
frame_closed FiveBits false Forced1 = refl
frame_closed FiveBits false Forced0 = refl
frame_closed SixBits true Disabled = refl
frame_closed SixBits true Odd = refl
frame_closed SixBits true Even = refl
frame_closed SixBits true Forced1 = refl
frame_closed SixBits true Forced0 = refl
frame_closed SixBits false Disabled = refl
frame_closed SixBits false Odd = refl
frame_closed SixBits false Even = refl
frame_closed SixBits false Forced1 = refl
frame_closed SixBits false Forced0 = refl
frame_closed SevenBits true Disabled = refl
frame_closed SevenBits true Odd = refl
frame_closed SevenBits true Even = refl
frame_closed SevenBits true Forced1 = refl
frame_closed SevenBits true Forced0 = refl
frame_closed SevenBits false Disabled = refl
frame_closed SevenBits false Odd = refl
frame_closed SevenBits false Even = refl
frame_closed SevenBits false Forced1 = refl
frame_closed SevenBits false Forced0 = refl
frame_closed EightBits true Disabled = refl
frame_closed EightBits true Odd = refl
frame_closed EightBits true Even = refl
frame_closed EightBits true Forced1 = refl
frame_closed EightBits true Forced0 = refl
frame_closed EightBits false Disabled = refl
frame_closed EightBits false Odd = refl
frame_closed EightBits false Even = refl
frame_closed EightBits false Forced1 = refl
frame_closed EightBits false Forced0 = refl

closed_zero : contains 0 divisor_access ≡ false
unfolding contains
closed_zero = refl

reached_set : contains divisor_access divisor_access ≡ true
unfolding contains
reached_set = refl

raised_quiet : contains 0x0B loop_back ≡ false
unfolding contains
raised_quiet = refl

-- what a byte without both FIFO bits shows
none_on : (v : ℕ) → bit_and v fifos_on ≡ 0 → contains v fifos_on ≡ false
unfolding contains
none_on v e = ap (λ x. eqb x fifos_on) e

shown_on : (f : Fifos) (v : ℕ) → ShowsFifos (is_on f) v → contains v fifos_on ≡ is_on f
shown_on absent v h = none_on v h
shown_on off v h = none_on v h
shown_on on v h = h

-- without a level the FIFOs are off
turned_off : (f : Fifos) → false ≡ is_on (turned f (fifo_control None))
unfolding contains
turned_off absent = refl
turned_off off = refl
turned_off on = refl

-- the frame, the modem lines and the divisor's bytes, with these FIFOs
abbrev pub set : Config → ℕ → ℕ → Fifos → Setup
set c dv mcr f = record { lcr = frame c.data_bits c.extra_stop_bits c.parity; mcr = mcr; dll = dv % 256; dlm = dv / 256; fifos = f }

module _ {S : Type 0} (d : Device S) (meaning : S → ChipState) (law : KeepsRules d meaning) where
  runs_split : (xs ys : List Access) (s t : S) → Runs d (xs ++ ys) s t → (u : S) × Runs d xs s u × Runs d ys u t
  runs_split [] ys s t r = (s, refl, r)
  runs_split (a ∷ xs) ys s t r = let q = runs_split xs ys _ t r.1 in (q.0, (r.0, q.1), q.2)

  patterns_set : (r : Bool) (xs : List Access) (s t : S) (σ : Setup) → Patterns r xs → Runs d xs s t → Set d meaning law s σ → Set d meaning law t σ
  patterns_set r xs s t σ both_back w h =
      subst (λ u. Set d meaning law u σ) w.1.1.1.1
      (setting.rd_spr d meaning law _ σ (setting.wr_spr d meaning law _ σ (setting.rd_spr d meaning law _ σ (setting.wr_spr d meaning law s σ h 0x42)) 0x73))
  patterns_set r xs s t σ (first_lost v e) w h =
      subst (λ u. Set d meaning law u σ) w.1.1 (setting.rd_spr d meaning law _ σ (setting.wr_spr d meaning law s σ h 0x42))
  patterns_set r xs s t σ (second_lost v e) w h =
      subst (λ u. Set d meaning law u σ) w.1.1.1.1
      (setting.rd_spr d meaning law _ σ (setting.wr_spr d meaning law _ σ (setting.rd_spr d meaning law _ σ (setting.wr_spr d meaning law s σ h 0x42)) 0x73))

  probe_set : (r : Bool) (xs : List Access) (s t : S) (σ : Setup) → Probe r xs → Runs d xs s t → Set d meaning law s σ → Set d meaning law t σ
  probe_set r xs s t σ (probe old ys p) w h =
      let x = runs_split ys (wr 7 old ∷ []) _ t w.1 in
      subst (λ u. Set d meaning law u σ) x.2.1
      (setting.wr_spr d meaning law x.0 σ (patterns_set r ys _ x.0 σ p x.1 (setting.rd_spr d meaning law s σ h)) old)

  line_set : (c : Config) (dv : ℕ) (s t : S) (σ : Setup) → Runs d (line_set_up c dv) s t → Set d meaning law s σ → Set d meaning law t (set c dv σ.mcr σ.fifos)
  line_set c dv s t σ w h =
      let a = setting.wr_lcr d meaning law s σ h 0 in
      let b = setting.wr_ier d meaning law _ (with_lcr σ 0) a 0 closed_zero in
      let e = setting.wr_lcr d meaning law _ (with_lcr σ 0) b divisor_access in
      let f = setting.wr_dll d meaning law _ (with_lcr σ divisor_access) e (dv % 256) reached_set in
      let g = setting.wr_dlm d meaning law _ (with_dll (with_lcr σ divisor_access) (dv % 256)) f (dv / 256) reached_set in
      let i = setting.wr_lcr d meaning law _ (with_dlm (with_dll (with_lcr σ divisor_access) (dv % 256)) (dv / 256)) g 0 in
      let j = setting.wr_lcr d meaning law _ (with_lcr (with_dlm (with_dll (with_lcr σ divisor_access) (dv % 256)) (dv / 256)) 0) i (frame c.data_bits c.extra_stop_bits c.parity) in
      subst (λ u. Set d meaning law u (set c dv σ.mcr σ.fifos)) w.1.1.1.1.1.1.1 j

  -- the driver knows whether the FIFOs are on
  fifo_set : (level : Option FifoTriggerLevel) (b : Bool) (xs : List Access) (s t : S) (σ : Setup) → FifoSetUp level b xs → Runs d xs s t → Set d meaning law s σ
      → (f : Fifos) × Set d meaning law t (with_fifos σ f) × (b ≡ is_on f)
  fifo_set level b xs s t σ unwanted w h =
      (turned σ.fifos (fifo_control None), subst (λ u. Set d meaning law u (with_fifos σ (turned σ.fifos (fifo_control None)))) w.1 (setting.wr_fcr d meaning law s σ h (fifo_control None)), turned_off σ.fifos)
  fifo_set level b xs s t σ (asked l isr) w h =
      let f = turned σ.fifos (fifo_control (Some l)) in
      let a = setting.wr_fcr d meaning law s σ h (fifo_control (Some l)) in (
        f,
        subst (λ u. Set d meaning law u (with_fifos σ f)) w.1.1 (setting.rd_isr d meaning law _ (with_fifos σ f) a),
        ap (λ v. contains v fifos_on) w.1.0 ∙ shown_on f _ (setting.isr_shows d meaning law _ (with_fifos σ f) a),
      )

  discarded_set : (n : ℕ) (xs : List Access) (s t : S) (σ : Setup) → Discarded n xs → Runs d xs s t → Set d meaning law s σ → Set d meaning law t σ
  discarded_set n xs s t σ all_read w h = subst (λ u. Set d meaning law u σ) w h
  discarded_set n xs s t σ (none_left m v e) w h = subst (λ u. Set d meaning law u σ) w.1 (setting.rd_lsr d meaning law s σ h)
  discarded_set n xs s t σ (one_read m v b ys e p) w h = discarded_set m ys _ t σ p w.1.1 (setting.rd_data d meaning law _ σ (setting.rd_lsr d meaning law s σ h))

  polls_set : (vs : List ℕ) (s t : S) (σ : Setup) → Runs d (polls vs) s t → Set d meaning law s σ → Set d meaning law t σ
  polls_set [] s t σ w h = subst (λ u. Set d meaning law u σ) w h
  polls_set (v ∷ vs) s t σ w h = polls_set vs _ t σ w.1 (setting.rd_lsr d meaning law s σ h)

  -- up to the wait
  opened_set : (c : Config) (dv : ℕ) (b : Bool) (xs : List Access) (s t : S) (σ : Setup) → Opened c dv b xs → Runs d xs s t → Set d meaning law s σ
      → (f : Fifos) × Set d meaning law t (set c dv 0x0B f) × (b ≡ is_on f)
  opened_set c dv b xs s t σ (opened ys zs fs ds) w h =
      let x = runs_split (line_set_up c dv ++ ys ++ zs) (wr 4 0x0B ∷ []) s t w in
      let y = runs_split (line_set_up c dv ++ ys) zs s x.0 x.1 in
      let z = runs_split (line_set_up c dv) ys s y.0 y.1 in
      let a = line_set c dv s z.0 σ z.1 h in
      let f = fifo_set c.fifo_trigger_level b ys z.0 y.0 (set c dv σ.mcr σ.fifos) fs z.2 a in
      let e = discarded_set 17 zs y.0 x.0 (set c dv σ.mcr f.0) ds y.2 f.1 in
      (f.0, subst (λ u. Set d meaning law u (set c dv 0x0B f.0)) x.2.1 (setting.wr_mcr d meaning law x.0 (set c dv σ.mcr f.0) e 0x0B), f.2)

  -- a read of the line status leaves nothing unseen
  fresh : (u : S) → (meaning (d.reader.next u 5)).receiver.seen ≡ (meaning (d.reader.next u 5)).receiver.counts
  fresh u = let r = law.reading u 5 (lit< tt) in let e = (r.acts.line_status refl).1 in ap (λ x. x.receiver.seen) e ∙ sym (ap (λ x. x.receiver.counts) e)

  -- nothing has been handed out or taken yet
  first_entry : (u : S) (σ : Setup) (l : Kept) → Set d meaning law (d.reader.next u 5) σ → contains σ.mcr loop_back ≡ false → l.fifo ≡ is_on σ.fifos → l.lsr ≡ 0
      → At d meaning law (meaning (d.reader.next u 5)) (meaning (d.reader.next u 5)).receiver.counts [] [] σ (d.reader.next u 5) l
  first_entry u σ l h q f z =
      let m = meaning (d.reader.next u 5) in
      record {
        setup = h;
        quiet = q;
        fifo = f;
        account = record {
          since = [];
          came = sym (append-nil m.receiver.arrived);
          lost = 0;
          newly = omega arith;
          sum = omega arith;
          order = rw append-nil (within_same (bytes m.receiver.waiting));
        };
        given = sym (append-nil m.transmitter.given);
        saved = rw (z, fresh u) (shows_none m.receiver.counts);
        older = rw (fresh u) (grown_same m.receiver.counts);
        newer = rw (fresh u) (grown_same m.receiver.counts);
      }

  pub record Begun (c : Config) (all : List Access) (s t : S) (l : Kept) : Type 0 where
    pub start : Start d all s t
    pub set_up : SetUp c (meaning t) l
    pub σ : Setup
    pub closed : contains σ.lcr divisor_access ≡ false
    pub ledger : At d meaning law (meaning start.at) (meaning start.at).receiver.counts [] [] σ t l

  -- the start, and everything that the list finds
  pub begun : (c : Config) (n : ℕ) (k : Kept) (f : ℕ) (l : Kept) (all : List Access) (s t : S) → Initialised c n k None f l all → Runs d all s t → Begun c all s t l
  begun c n k f l all s t (done dv h b xs ys zs px oy vs v busy empty within (cleared a i e)) w =
      let ps = polls vs ++ (rd 5 v ∷ []) in
      let x = runs_split (xs ++ ys ++ ps ++ (rd 5 a ∷ rd 2 i ∷ rd 6 e ∷ [])) (wr 1 c.interrupts ∷ []) s t w in
      let y = runs_split (xs ++ ys ++ ps) (rd 5 a ∷ rd 2 i ∷ rd 6 e ∷ []) s x.0 x.1 in
      let z = runs_split (xs ++ ys) ps s y.0 y.1 in
      let q = runs_split xs ys s z.0 z.1 in
      let p = runs_split (polls vs) (rd 5 v ∷ []) z.0 y.0 z.2 in
      let o = opened_set c dv b ys q.0 z.0 (meaning s).setup oy q.2 (probe_set true xs s q.0 (meaning s).setup px q.1 refl) in
      let σ₁ = set c dv 0x0B o.0 in
      let g : Set d meaning law y.0 σ₁ = subst (λ u. Set d meaning law u σ₁) p.2.1 (setting.rd_lsr d meaning law p.0 σ₁ (polls_set vs z.0 p.0 σ₁ p.1 o.1)) in
      let u = y.0 in
      let m = meaning (d.reader.next u 5) in
      let first = first_entry u σ₁ (with_saved (with_fifo (with_config k c) b) 0 0) (setting.rd_lsr d meaning law u σ₁ g) raised_quiet o.2 refl in
      let open_σ = frame_closed c.data_bits c.extra_stop_bits c.parity in
      let j₁ = steps.read_isr d meaning law m m.receiver.counts [] [] σ₁ _ _ first in
      let j₂ = steps.read_msr d meaning law m m.receiver.counts [] [] σ₁ _ _ j₁.ledger in
      let j₃ = steps.write_ier d meaning law m m.receiver.counts [] [] σ₁ _ _ j₂.ledger c.interrupts open_σ in
      let tail = runs_append d (rd 2 i ∷ rd 6 e ∷ []) (wr 1 c.interrupts ∷ []) (d.reader.next u 5) x.0 t y.2.1 x.2 in
      let end : At d meaning law m m.receiver.counts [] [] σ₁ t (with_saved (with_fifo (with_config k c) b) 0 0) =
      subst (λ v. At d meaning law m m.receiver.counts [] [] σ₁ v (with_saved (with_fifo (with_config k c) b) 0 0)) tail.1.1.1 j₃.ledger in
      record {
        start = record {
          before = xs ++ ys ++ ps;
          status = a;
          at = d.reader.next u 5;
          rest = rd 2 i ∷ rd 6 e ∷ wr 1 c.interrupts ∷ [];
          parts = append_assoc (xs ++ ys ++ ps) (rd 5 a ∷ rd 2 i ∷ rd 6 e ∷ []) (wr 1 c.interrupts ∷ []);
          reached = runs_append d (xs ++ ys ++ ps) (rd 5 a ∷ []) s u (d.reader.next u 5) y.1 (y.2.0, refl);
          left = tail;
          last = ((λ z. let y : ◌≡◌ {A = ℕ} 2 5 = ap (λ x. x.offset) z in omega arith), ((λ z. let y : ◌≡◌ {A = ℕ} 6 5 = ap (λ x. x.offset) z in omega arith), ((λ z. let y : ◌≡◌ {A = ℕ} 1 5 = ap (λ x. x.offset) z in omega arith), tt)));
        };
        set_up = record {
          divisor = dv;
          right = h;
          low = ap (λ x. x.dll) end.setup;
          high = ap (λ x. x.dlm) end.setup;
          framed = ap (λ x. x.lcr) end.setup;
          raised = ap (λ x. x.mcr) end.setup;
          fifos = o.2 ∙ sym (ap (λ x. is_on x.fifos) end.setup);
        };
        σ = σ₁;
        closed = open_σ;
        ledger = end;
      }
