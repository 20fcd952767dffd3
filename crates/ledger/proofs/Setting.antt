-- What accesses do to the set-up of a chip, in loop mode or not.
use Rattle.std.proofs.Common.{◌≡◌, ℕ, Bool, true, false, cond, List, [], ◌∷◌, refl, ap, ◌∙◌, subst, ⊎_elim, lit<}
use Rattle.std.proofs.lemmas.Bool.{cases_Bool}
use Rattle.registers.specs.Flags.{contains, divisor_access, fifo_enable}
use Rattle.backends.specs.declared.character.Character.{Character}
use Rattle.backends.specs.Chip.{ChipState, Setup, Fifos, absent, off, on, is_on, divisor_reached, looping}
use Rattle.backends.specs.Device.{Device}
use Rattle.backends.specs.Rules.{KeepsRules, Moved, Takes, ShowsFifos, controlled, with_lcr, with_mcr, with_dll, with_dlm, with_fifos}

moved_setup : (m n : ChipState) → Moved m n → n.setup ≡ m.setup
moved_setup m n p = ⊎_elim (λ e. ap (λ x. x.setup) (p.loop e).after) (λ e. ap (λ x. x.setup) (p.line e).after) (cases_Bool (looping m))

takes_setup : (ws : List Character) (m : ChipState) (v : ℕ) (n : ChipState) → Takes ws m v n → n.setup ≡ m.setup
takes_setup [] m v n t = ap (λ x. x.setup) t
takes_setup (c ∷ cs) m v n t = ap (λ x. x.setup) t.1

-- the FIFOs after a write of the FIFO control
abbrev pub turned : Fifos → ℕ → Fifos
turned absent v = absent
turned off v = cond (contains v fifo_enable) on off
turned on v = cond (contains v fifo_enable) on off

controlled_setup : (f : Fifos) (v : ℕ) (m : ChipState) → m.setup.fifos ≡ f → (controlled f v m).setup ≡ with_fifos m.setup (turned f v)
controlled_setup absent v m e = ap (λ x. with_fifos m.setup x) e
controlled_setup off v m e = ⊎_elim (λ h. rw h refl) (λ h. rw h (ap (λ x. with_fifos m.setup x) e)) (cases_Bool (contains v fifo_enable))
controlled_setup on v m e = ⊎_elim (λ h. rw h (ap (λ x. with_fifos m.setup x) e)) (λ h. rw h refl) (cases_Bool (contains v fifo_enable))

module _ {S : Type 0} (d : Device S) (meaning : S → ChipState) (law : KeepsRules d meaning) where
  abbrev pub Set : S → Setup → Type 0
  Set s σ = (meaning s).setup ≡ σ

  module _ (s : S) (σ : Setup) (h : Set s σ) where
    mid_is : (mid : ChipState) → Moved (meaning s) mid → mid.setup ≡ σ
    mid_is mid p = moved_setup (meaning s) mid p ∙ h

    reached : (mid : ChipState) → Moved (meaning s) mid → (b : Bool) → contains σ.lcr divisor_access ≡ b → divisor_reached mid ≡ b
    reached mid p b e = ap (λ x. contains x.lcr divisor_access) (mid_is mid p) ∙ e

    pub rd_lsr : Set (d.reader.next s 5) σ
    rd_lsr = let r = law.reading s 5 (lit< tt) in ap (λ x. x.setup) (r.acts.line_status refl).1 ∙ mid_is r.mid r.before

    pub rd_data : Set (d.reader.next s 0) σ
    rd_data =
        let r = law.reading s 0 (lit< tt) in
        ⊎_elim
        (λ e. ap (λ x. x.setup) (r.acts.divisor_low refl e).1 ∙ mid_is r.mid r.before)
        (λ e. takes_setup r.mid.receiver.waiting r.mid _ _ (r.acts.taken refl e) ∙ mid_is r.mid r.before)
        (cases_Bool (divisor_reached r.mid))

    pub rd_isr : Set (d.reader.next s 2) σ
    rd_isr = let r = law.reading s 2 (lit< tt) in ap (λ x. x.setup) (r.acts.interrupt_status refl).1 ∙ mid_is r.mid r.before

    pub isr_shows : ShowsFifos (is_on σ.fifos) (d.reader.gives s 2)
    isr_shows =
        let r = law.reading s 2 (lit< tt) in
        subst (λ x. ShowsFifos (is_on x.fifos) (d.reader.gives s 2)) (mid_is r.mid r.before) (r.acts.interrupt_status refl).0

    pub rd_spr : Set (d.reader.next s 7) σ
    rd_spr = let r = law.reading s 7 (lit< tt) in ap (λ x. x.setup) (r.acts.scratch refl) ∙ mid_is r.mid r.before

    pub wr_spr : (v : ℕ) → Set (d.write s 7 v) σ
    wr_spr v = let w = law.writing s 7 v (lit< tt) in ap (λ x. x.setup) (w.acts.scratch refl) ∙ mid_is w.mid w.before

    pub wr_lcr : (v : ℕ) → Set (d.write s 3 v) (with_lcr σ v)
    wr_lcr v = let w = law.writing s 3 v (lit< tt) in ap (λ x. x.setup) (w.acts.line_control refl) ∙ ap (λ x. with_lcr x v) (mid_is w.mid w.before)

    pub wr_mcr : (v : ℕ) → Set (d.write s 4 v) (with_mcr σ v)
    wr_mcr v = let w = law.writing s 4 v (lit< tt) in ap (λ x. x.setup) (w.acts.modem_control refl) ∙ ap (λ x. with_mcr x v) (mid_is w.mid w.before)

    pub wr_ier : (v : ℕ) → contains σ.lcr divisor_access ≡ false → Set (d.write s 1 v) σ
    wr_ier v e = let w = law.writing s 1 v (lit< tt) in ap (λ x. x.setup) (w.acts.interrupts refl (reached w.mid w.before false e)) ∙ mid_is w.mid w.before

    pub wr_dll : (v : ℕ) → contains σ.lcr divisor_access ≡ true → Set (d.write s 0 v) (with_dll σ v)
    wr_dll v e = let w = law.writing s 0 v (lit< tt) in ap (λ x. x.setup) (w.acts.divisor_low refl (reached w.mid w.before true e)) ∙ ap (λ x. with_dll x v) (mid_is w.mid w.before)

    pub wr_dlm : (v : ℕ) → contains σ.lcr divisor_access ≡ true → Set (d.write s 1 v) (with_dlm σ v)
    wr_dlm v e = let w = law.writing s 1 v (lit< tt) in ap (λ x. x.setup) (w.acts.divisor_high refl (reached w.mid w.before true e)) ∙ ap (λ x. with_dlm x v) (mid_is w.mid w.before)

    pub wr_fcr : (v : ℕ) → Set (d.write s 2 v) (with_fifos σ (turned σ.fifos v))
    wr_fcr v =
        let w = law.writing s 2 v (lit< tt) in
        ap (λ x. x.setup) (w.acts.fifo_control refl) ∙ controlled_setup w.mid.setup.fifos v w.mid refl ∙ ap (λ x. with_fifos x (turned x.fifos v)) (mid_is w.mid w.before)
