-- One access to a chip, and the ledger.
use Rattle.std.proofs.Common.{◌≡◌, ℕ, ◌+◌, ◌<◌, ◌≤◌, Bool, true, false, List, [], ◌∷◌, ◌++◌, refl, ap, ◌∙◌, arith, lit<}
use Rattle.registers.specs.Flags.{contains, data_ready, thr_empty, loop_back, divisor_access}
use Rattle.backends.specs.declared.character.Counts.{Counts}
use Rattle.backends.specs.Chip.{ChipState, Setup, capacity, divisor_reached, looping, with_transmitter}
use Rattle.backends.specs.Device.{Device}
use Rattle.backends.specs.Rules.{KeepsRules, Moved, idle, sent, some_wait, with_lcr}
use Rattle.driver.specs.Kept.{Kept}
use Rattle.driver.specs.Traces.{noting}
use Rattle.ledger.proofs.Ledger.{Ledger, load, moved, noticed_ledger, taken_ledger, sent_ledger, controlled_ledger}

module _ {S : Type 0} (d : Device S) (meaning : S → ChipState) (law : KeepsRules d meaning) (start : ChipState) where
  -- the ledger in a state of the chip
  abbrev pub At : Counts → List ℕ → List ℕ → Setup → S → Kept → Type 0
  At base out gone σ s k = Ledger start base out gone σ (meaning s) k

  module _ (base : Counts) (out gone : List ℕ) (σ : Setup) (s : S) (k : Kept) (l : At base out gone σ s k) where
    -- an access that changes nothing but what happens on the line
    pub record Quiet (t : S) : Type 0 where
      pub ledger : At base out gone σ t k
      pub less : load (meaning t) ≤ load (meaning s)

    quiet : (t : S) (mid : ChipState) → Moved (meaning s) mid → meaning t ≡ mid → Quiet t
    quiet t mid p e =
        let a = moved start base out gone σ k (meaning s) mid l (law.single s) p in
        record { ledger = rw e a.ledger; less = rw e a.less }

    pub read_isr : Quiet (d.reader.next s 2)
    read_isr = let r = law.reading s 2 (lit< tt) in quiet _ r.mid r.before (r.acts.interrupt_status refl).1

    pub read_mcr : Quiet (d.reader.next s 4)
    read_mcr = let r = law.reading s 4 (lit< tt) in quiet _ r.mid r.before (r.acts.modem_control refl).1

    pub read_msr : Quiet (d.reader.next s 6)
    read_msr = let r = law.reading s 6 (lit< tt) in quiet _ r.mid r.before (r.acts.modem_status refl)

    pub read_spr : Quiet (d.reader.next s 7)
    read_spr = let r = law.reading s 7 (lit< tt) in quiet _ r.mid r.before (r.acts.scratch refl)

    pub write_spr : (v : ℕ) → Quiet (d.write s 7 v)
    write_spr v = let w = law.writing s 7 v (lit< tt) in quiet _ w.mid w.before (w.acts.scratch refl)

    -- what the chip's set-up is when an access acts
    mid_setup : (mid : ChipState) → Moved (meaning s) mid → mid.setup ≡ σ
    mid_setup mid p = (moved start base out gone σ k (meaning s) mid l (law.single s) p).ledger.setup

    reached : (mid : ChipState) → Moved (meaning s) mid → (b : Bool) → contains σ.lcr divisor_access ≡ b → divisor_reached mid ≡ b
    reached mid p b e = ap (λ x. contains x.lcr divisor_access) (mid_setup mid p) ∙ e

    pub read_lcr : Quiet (d.reader.next s 3)
    read_lcr = let r = law.reading s 3 (lit< tt) in quiet _ r.mid r.before (r.acts.line_control refl).1

    -- it gives what was last written
    pub lcr_is : d.reader.gives s 3 ≡ σ.lcr
    lcr_is = let r = law.reading s 3 (lit< tt) in (r.acts.line_control refl).0 ∙ ap (λ x. x.lcr) (mid_setup r.mid r.before)

    pub read_ier : contains σ.lcr divisor_access ≡ false → Quiet (d.reader.next s 1)
    read_ier e = let r = law.reading s 1 (lit< tt) in quiet _ r.mid r.before (r.acts.interrupts refl (reached r.mid r.before false e))

    pub write_ier : (v : ℕ) → contains σ.lcr divisor_access ≡ false → Quiet (d.write s 1 v)
    write_ier v e = let w = law.writing s 1 v (lit< tt) in quiet _ w.mid w.before (w.acts.interrupts refl (reached w.mid w.before false e))

    pub read_dll : contains σ.lcr divisor_access ≡ true → Quiet (d.reader.next s 0)
    read_dll e = let r = law.reading s 0 (lit< tt) in quiet _ r.mid r.before (r.acts.divisor_low refl (reached r.mid r.before true e)).1

    pub read_dlm : contains σ.lcr divisor_access ≡ true → Quiet (d.reader.next s 1)
    read_dlm e = let r = law.reading s 1 (lit< tt) in quiet _ r.mid r.before (r.acts.divisor_high refl (reached r.mid r.before true e)).1

    pub write_lcr : (v : ℕ) → At base out gone (with_lcr σ v) (d.write s 3 v) k
    write_lcr v =
        let w = law.writing s 3 v (lit< tt) in
        let a = moved start base out gone σ k (meaning s) w.mid l (law.single s) w.before in
        rw (w.acts.line_control refl) (controlled_ledger start base out gone σ k w.mid v a.ledger)

    -- a read of the line status: its errors are saved, and it tells of both queues
    pub record StatusRead (v : ℕ) (t : S) : Type 0 where
      pub ledger : At base out gone σ t (noting k (v ∷ []) [])
      pub ready : contains v data_ready ≡ some_wait (meaning t).receiver.waiting
      pub room : contains v thr_empty ≡ idle (meaning t).transmitter
      pub fresh : (meaning t).receiver.seen ≡ (meaning t).receiver.counts

    pub read_lsr : (v : ℕ) → v ≡ d.reader.gives s 5 → StatusRead v (d.reader.next s 5)
    read_lsr v e =
        let r = law.reading s 5 (lit< tt) in
        let a = moved start base out gone σ k (meaning s) r.mid l (law.single s) r.before in
        let x = r.acts.line_status refl in
        rw e (record {
          ledger = rw x.1 (noticed_ledger start base out gone σ k r.mid (d.reader.gives s 5) a.ledger x.0);
          ready = rw x.1 x.0.ready;
          room = rw x.1 x.0.room;
          fresh = rw x.1 refl;
        })

    -- a character that waits is read
    pub read_data : (v : ℕ) → v ≡ d.reader.gives s 0 → contains σ.lcr divisor_access ≡ false → some_wait (meaning s).receiver.waiting ≡ true
        → At base (out ++ (v ∷ [])) gone σ (d.reader.next s 0) k
    read_data v e o w =
        let r = law.reading s 0 (lit< tt) in
        let a = moved start base out gone σ k (meaning s) r.mid l (law.single s) r.before in
        rw e (taken_ledger start base out gone σ k r.mid _ _ r.mid.receiver.waiting a.ledger refl (a.still w)
        (r.acts.taken refl (reached r.mid r.before false o)))

    -- a byte is written where there is room
    pub write_data : (v i : ℕ) → contains σ.lcr divisor_access ≡ false → load (meaning s) ≤ i → i < capacity σ.fifos
        → At base out (gone ++ (v ∷ [])) σ (d.write s 0 v) k × (load (meaning (d.write s 0 v)) ≤ i + 1)
    write_data v i o h c =
        let w = law.writing s 0 v (lit< tt) in
        let a = moved start base out gone σ k (meaning s) w.mid l (law.single s) w.before in
        let q : looping w.mid ≡ false = ap (λ x. contains x.mcr loop_back) a.ledger.setup ∙ a.ledger.quiet in
        let f : capacity w.mid.setup.fifos ≡ capacity σ.fifos = ap (λ x. capacity x.fifos) a.ledger.setup in
        let e : meaning (d.write s 0 v) ≡ with_transmitter w.mid (sent false (capacity σ.fifos) v w.mid.transmitter) =
        w.acts.given refl (reached w.mid w.before false o)
        ∙ ap (λ b. with_transmitter w.mid (sent b (capacity w.mid.setup.fifos) v w.mid.transmitter)) q
        ∙ ap (λ n. with_transmitter w.mid (sent false n v w.mid.transmitter)) f in
        let g = sent_ledger start base out gone σ k w.mid (capacity σ.fifos) v a.ledger (omega (arith, a.less)) in
        rw e (g.0, omega (arith, g.1, a.less))

  -- what the driver saves of the modem status is not in the ledger
  pub same_line : (base : Counts) (out gone : List ℕ) (σ : Setup) (s : S) (k n : Kept) → n.lsr ≡ k.lsr → n.fifo ≡ k.fifo → At base out gone σ s k → At base out gone σ s n
  same_line base out gone σ s k n e f l = record {
    setup = l.setup;
    quiet = l.quiet;
    fifo = f ∙ l.fifo;
    account = l.account;
    given = l.given;
    saved = rw e l.saved;
    older = l.older;
    newer = l.newer;
  }
