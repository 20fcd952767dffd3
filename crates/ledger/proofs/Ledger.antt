-- The ledger that a list of calls keeps: what was handed out and taken so far, and what the chip and the driver hold.
use Rattle.std.proofs.Common.{◌≡◌, ℕ, ◌+◌, ◌-◌, ◌<◌, ◌≤◌, true, false, cond, List, [], ◌∷◌, ◌++◌, length, sym, ap, ◌∙◌, subst, append_assoc, arith, length-append}
use Rattle.std.proofs.lemmas.Bool.{lt-ltb}
use Rattle.registers.specs.Flags.{contains, loop_back}
use Rattle.backends.specs.declared.character.Character.{Character}
use Rattle.backends.specs.declared.character.Counts.{Counts}
use Rattle.backends.specs.Chip.{ChipState, Receiver, Transmitter, Setup, is_on, with_receiver, with_transmitter, with_setup}
use Rattle.backends.specs.Rules.{arrive, Moved, LineMoved, noticed, next_first, sent, some_wait, Takes, with_lcr, Status}
use Rattle.driver.specs.Kept.{Kept}
use Rattle.driver.specs.Traces.{noting}
use Rattle.ledger.specs.Law.{Within, Accounted, ShowsErrors, bytes}
use Rattle.ledger.proofs.Arrivals.{arrived, next_grown, next_lost}
use Rattle.ledger.proofs.Shown.{Grown, grown_more, grown_same, shows_joined}

pub record Ledger (start : ChipState) (base : Counts) (out gone : List ℕ) (σ : Setup) (m : ChipState) (k : Kept) : Type 0 where
  pub setup : m.setup ≡ σ
  pub quiet : contains σ.mcr loop_back ≡ false
  pub fifo : k.fifo ≡ is_on σ.fifos
  pub account : Accounted start.receiver m.receiver out
  pub given : m.transmitter.given ≡ start.transmitter.given ++ gone
  pub saved : ShowsErrors k.lsr base m.receiver.seen
  pub older : Grown base m.receiver.seen
  pub newer : Grown m.receiver.seen m.receiver.counts

-- how much the transmitter has still to do
abbrev pub load : ChipState → ℕ
load m = m.transmitter.held + length m.transmitter.turning

-- without FIFOs at most one character waits
abbrev pub Single : ChipState → Type 0
Single m = is_on m.setup.fifos ≡ false → length m.receiver.waiting ≤ 1

module _ (start : ChipState) (base : Counts) (out gone : List ℕ) (σ : Setup) (k : Kept) where
  -- what happens on the line before an access
  pub record AfterLine (m n : ChipState) : Type 0 where
    pub ledger : Ledger start base out gone σ n k
    pub still : some_wait m.receiver.waiting ≡ true → some_wait n.receiver.waiting ≡ true
    pub less : load n ≤ load m

  line_moved : (m n : ChipState) → Ledger start base out gone σ m k → Single m → LineMoved m n → AfterLine m n
  line_moved m n l one p =
      let a = arrived start.receiver m.receiver m.setup.fifos out l.account one p.arrivals in
      let x : ChipState = record {
        receiver = arrive m.setup.fifos p.arrivals m.receiver;
        transmitter = record { given = m.transmitter.given; held = m.transmitter.held - p.gone; turning = m.transmitter.turning };
        setup = m.setup;
      } in
      let y : AfterLine m x = record {
        ledger = record {
          setup = l.setup;
          quiet = l.quiet;
          fifo = l.fifo;
          account = a.account;
          given = l.given;
          saved = subst (λ c. ShowsErrors k.lsr base c) (sym a.seen) l.saved;
          older = subst (λ c. Grown base c) (sym a.seen) l.older;
          newer = subst (λ c. Grown c (arrive m.setup.fifos p.arrivals m.receiver).counts) (sym a.seen) (grown_more _ _ _ l.newer a.grown);
        };
        still = a.still;
        less = omega arith;
      } in
      subst (λ z. AfterLine m z) (sym p.after) y

  pub moved : (m n : ChipState) → Ledger start base out gone σ m k → Single m → Moved m n → AfterLine m n
  moved m n l one p = line_moved m n l one (p.line (ap (λ s. contains s.mcr loop_back) l.setup ∙ l.quiet))

  -- a read of the line status: its errors are saved
  pub noticed_ledger : (m : ChipState) (v : ℕ) → Ledger start base out gone σ m k → Status m v
      → Ledger start base out gone σ (with_receiver m (noticed m.receiver)) (noting k (v ∷ []) [])
  noticed_ledger m v l s = record {
    setup = l.setup;
    quiet = l.quiet;
    fifo = l.fifo;
    account = record { since = l.account.since; came = l.account.came; lost = l.account.lost; newly = l.account.newly; sum = l.account.sum; order = l.account.order };
    given = l.given;
    saved = shows_joined k.lsr v base m.receiver.seen m.receiver.counts l.saved
        (record { overrun = s.overrun; parity = s.parity; framing = s.framing; broken = s.broken }) l.older l.newer;
    older = grown_more _ _ _ l.older l.newer;
    newer = grown_same m.receiver.counts;
  }

  -- a character is read
  pub taken_ledger : (m n : ChipState) (v : ℕ) (ws : List Character) → Ledger start base out gone σ m k → m.receiver.waiting ≡ ws → some_wait ws ≡ true → Takes ws m v n
      → Ledger start base (out ++ (v ∷ [])) gone σ n k
  taken_ledger m n v [] l e h t = let z : ◌≡◌ {A = ℕ} 0 1 = cc in absurd (omega arith)
  taken_ledger m n v (c ∷ cs) l e h t =
      let r : Receiver = record { waiting = cs; arrived = m.receiver.arrived; counts = next_first cs m.receiver.counts; seen = m.receiver.seen } in
      let a = l.account in
      let f = length-append out (v ∷ []) in
      let g : length m.receiver.waiting ≡ length cs + 1 = ap length e ∙ omega arith in
      let o : Within ((out ++ (v ∷ [])) ++ bytes cs) (bytes start.receiver.waiting ++ bytes a.since) =
      subst (λ b. Within ((out ++ (b ∷ [])) ++ bytes cs) (bytes start.receiver.waiting ++ bytes a.since)) (sym t.0)
      (rw (append_assoc out (c.byte ∷ []) (bytes cs)) (subst (λ w. Within (out ++ bytes w) (bytes start.receiver.waiting ++ bytes a.since)) e a.order)) in
      subst (λ x. Ledger start base (out ++ (v ∷ [])) gone σ x k) (sym t.1)
      (record {
        setup = l.setup;
        quiet = l.quiet;
        fifo = l.fifo;
        account = record { since = a.since; came = a.came; lost = a.lost; newly = next_lost cs m.receiver.counts ∙ a.newly; sum = omega (arith, a.sum); order = o };
        given = l.given;
        saved = l.saved;
        older = l.older;
        newer = grown_more _ _ _ l.newer (next_grown cs m.receiver.counts);
      })

  -- a byte is taken for the line
  pub sent_ledger : (m : ChipState) (room v : ℕ) → Ledger start base out gone σ m k → load m < room
      → Ledger start base out (gone ++ (v ∷ [])) σ (with_transmitter m (sent false room v m.transmitter)) k × (load (with_transmitter m (sent false room v m.transmitter)) ≤ load m + 1)
  sent_ledger m room v l h =
      let b = lt-ltb (load m) room h in
      let t : Transmitter = record { given = m.transmitter.given ++ (v ∷ []); held = m.transmitter.held + 1; turning = m.transmitter.turning } in
      let e : sent false room v m.transmitter ≡ t = ap (λ x. cond x t m.transmitter) b in
      subst (λ x. Ledger start base out (gone ++ (v ∷ [])) σ (with_transmitter m x) k × (load (with_transmitter m x) ≤ load m + 1)) (sym e) (
        record {
          setup = l.setup;
          quiet = l.quiet;
          fifo = l.fifo;
          account = l.account;
          given = ap (λ g. g ++ (v ∷ [])) l.given ∙ append_assoc start.transmitter.given gone (v ∷ []);
          saved = l.saved;
          older = l.older;
          newer = l.newer;
        },
        omega arith,
      )

  -- the line control is written
  pub controlled_ledger : (m : ChipState) (v : ℕ) → Ledger start base out gone σ m k → Ledger start base out gone (with_lcr σ v) (with_setup m (with_lcr m.setup v)) k
  controlled_ledger m v l = record {
    setup = ap (λ s. with_lcr s v) l.setup;
    quiet = l.quiet;
    fifo = l.fifo;
    account = l.account;
    given = l.given;
    saved = l.saved;
    older = l.older;
    newer = l.newer;
  }
