-- Each call of a list keeps the ledger.
use Rattle.std.proofs.Common.{◌≡◌, ℕ, Bool, true, false, cond, List, [], ◌∷◌, ◌++◌, length, take, drop, is_ok, Some, Ok, Err, vec_items, Option, Result, sym, refl, ap, ◌∙◌, subst, append-nil}
use lib.Bits.{bit_or, bit_and}
use Rattle.std.specs.Result.{result_ok}
use Rattle.std.proofs.lemmas.List.{take_at}
use Rattle.registers.specs.declared.error.ByteReceiveError.{ByteReceiveError}
use Rattle.registers.specs.declared.error.ByteSendError.{ByteSendError}
use Rattle.registers.specs.Flags.{contains, divisor_access, line_errors}
use Rattle.backends.specs.declared.character.Counts.{Counts}
use Rattle.backends.specs.Chip.{ChipState, Setup}
use Rattle.backends.specs.Device.{Device, Runs, rd, wr}
use Rattle.backends.specs.Rules.{KeepsRules}
use Rattle.driver.specs.declared.uart.Uart16550.{Uart16550}
use Rattle.driver.specs.Kept.{Kept, kept, with_saved}
use Rattle.driver.specs.Traces.{noting}
use Rattle.driver.specs.Receives.{Try, took, missed, got, statuses, one_try, filled}
use Rattle.driver.specs.Getters.{Looked, divisor_look}
use Rattle.driver.specs.Receives as receives
use Rattle.driver.specs.Sends as sends
use Rattle.driver.proofs.Attempting.{taken_front}
use Rattle.ledger.specs.declared.call.Call.{Call}
use Rattle.ledger.specs.declared.call.Answer.{Answer}
use Rattle.ledger.specs.declared.call.Call.TheVariants as call
use Rattle.ledger.specs.declared.call.Answer.TheVariants as answer
use Rattle.ledger.specs.Did.{Did, try_receive, receive, receive_exact, ready_to_receive, try_send, send, send_exact, ready_to_send, check_connected, check_present, enable, disable, ier, isr, lcr, mcr, lsr, msr, spr, dll_dlm, dump}
use Rattle.ledger.specs.Law.{AnswerShows, is_lsr, ShowsErrors}
use Rattle.ledger.specs.Reported.{handed_by, taken_by}
use Rattle.ledger.proofs.Steps as steps
use Rattle.ledger.proofs.Steps.{At}
use Rattle.ledger.proofs.Pieces as pieces
use Rattle.ledger.proofs.Shown.{shows_answered, shows_none, grown_same, Grown}

-- the first places of a filled buffer
pub filled_front : (n : ℕ) (xs before after : List ℕ) → after ≡ filled xs before → n ≡ length xs → take n after ≡ xs
filled_front n xs before after e f = ap (λ l. take n l) e ∙ take_at xs (drop (length xs) before) n (sym f)

-- the first bytes of a sent buffer
pub sent_front : (k : Kept) (n : ℕ) (buffer : List ℕ) (tried : List sends.Attempt) → sends.Attempts k buffer tried → n ≡ length (sends.taken tried) → take n buffer ≡ sends.taken tried
sent_front k n buffer tried a f =
    ap (λ l. take n l) (sym (taken_front k buffer tried a)) ∙ take_at (sends.taken tried) (drop (length (sends.taken tried)) buffer) n (sym f)

-- what an answer has to show, and the counts that the next line status getter starts from
abbrev pub ShowsNow : Bool → Option Answer → Counts → Counts → Counts → Type 0
ShowsNow true a base now next = AnswerShows a base now × (next ≡ now)
ShowsNow false a base now next = next ≡ base

module _ {S : Type 0} (d : Device S) (meaning : S → ChipState) (law : KeepsRules d meaning) (start : ChipState) (σ : Setup)
    (open_σ : contains σ.lcr divisor_access ≡ false) where
  -- a call keeps the ledger, and its answer shows what it has to
  pub record KeptBy (c : Call) (a : Option Answer) (base : Counts) (out gone : List ℕ) (t : S) (l : Kept) : Type 0 where
    pub next : Counts
    pub ledger : At d meaning law start next (out ++ handed_by c a) (gone ++ taken_by c a) σ t l
    pub shows : ShowsNow (is_lsr (record { call = c; answer = a })) a base (meaning t).receiver.counts next

  module _ (base : Counts) (out gone : List ℕ) (old new : Uart16550 S) (l : At d meaning law start base out gone σ old.backend (kept old)) where
    -- a call that hands out nothing and takes nothing
    still : (m : Kept) → (kept new) ≡ m → At d meaning law start base out gone σ new.backend m → At d meaning law start base (out ++ []) (gone ++ []) σ new.backend (kept new)
    still m e x = simp append-nil (rw e x)

    -- tries that were made
    tried : (ts : List Try) → receives.Made d old new ts → At d meaning law start base (out ++ got ts) (gone ++ []) σ new.backend (kept new)
    tried ts m = simp append-nil (rw m.keeps (pieces.tries_kept d meaning law start base σ open_σ ts out gone old.backend new.backend (kept old) m.sound m.ran l))

    -- attempts that were made
    attempted : (buffer : List ℕ) (xs : List sends.Attempt) → sends.Attempts (kept old) buffer xs → sends.Made d old new xs → At d meaning law start base (out ++ []) (gone ++ sends.taken xs) σ new.backend (kept new)
    attempted buffer xs h m = simp append-nil (rw m.keeps (pieces.attempts_kept d meaning law start base σ open_σ xs out gone buffer old.backend new.backend (kept old) (kept old) refl h m.ran l))

    one_received : (r : Result ℕ ByteReceiveError) (v : ℕ) → receives.Made d old new (one_try v (result_ok r))
        → At d meaning law start base (out ++ handed_by call.TryReceive (Some (answer.Byte r))) (gone ++ []) σ new.backend (kept new)
    one_received (Ok b) v m = tried (took v b ∷ []) m
    one_received (Err e) v m = tried (missed v ∷ []) m

    one_sent : (b : ℕ) (r : Result (Unit {0}) ByteSendError) → sends.Sent d old new (b ∷ []) (cond (is_ok r) 1 0)
        → At d meaning law start base (out ++ []) (gone ++ taken_by (call.TrySend b) (Some (answer.Sent r))) σ new.backend (kept new)
    one_sent b (Ok u) w = rw (sent_front (kept old) 1 (b ∷ []) w.tried w.sound w.answer) (attempted (b ∷ []) w.tried w.sound w.made)
    one_sent b (Err e) w = subst (λ g. At d meaning law start base (out ++ []) (gone ++ g) σ new.backend (kept new)) (sym (sent_front (kept old) 0 (b ∷ []) w.tried w.sound w.answer)) (attempted (b ∷ []) w.tried w.sound w.made)

    -- interrupts are switched
    switched : (v x : ℕ) (m : Kept) → (kept new) ≡ m → m.lsr ≡ (kept old).lsr → m.fifo ≡ (kept old).fifo → Runs d (rd 1 v ∷ wr 1 x ∷ []) old.backend new.backend → At d meaning law start base (out ++ []) (gone ++ []) σ new.backend (kept new)
    switched v x m e f h r =
        let p = steps.read_ier d meaning law start base out gone σ old.backend (kept old) l open_σ in
        let q = steps.write_ier d meaning law start base out gone σ _ (kept old) p.ledger x open_σ in
        still m e (steps.same_line d meaning law start base out gone σ new.backend (kept old) m f h (subst (λ u. At d meaning law start base out gone σ u (kept old)) r.1.1 q.ledger))

    -- the line status getter: what it answers, and the errors forgotten
    looked : (v r : ℕ) → v ≡ d.reader.gives old.backend 5 → d.reader.next old.backend 5 ≡ new.backend → r ≡ bit_or v (bit_or (kept old).lsr (bit_and v line_errors)) → (kept new) ≡ with_saved (kept old) 0 (kept old).msr
        → KeptBy call.Lsr (Some (answer.Register r)) base out gone new.backend (kept new)
    looked v r e f a h =
        let p = steps.read_lsr d meaning law start base out gone σ old.backend (kept old) l v e in
        let u = d.reader.next old.backend 5 in
        let m = (meaning u).receiver.counts in
        let x : ShowsErrors (bit_or (kept old).lsr (bit_and v line_errors)) base m = subst (λ c. ShowsErrors (bit_or (kept old).lsr (bit_and v line_errors)) base c) p.fresh p.ledger.saved in
        let y : At d meaning law start m out gone σ u (with_saved (kept old) 0 (kept old).msr) = record {
          setup = p.ledger.setup;
          quiet = p.ledger.quiet;
          fifo = p.ledger.fifo;
          account = p.ledger.account;
          given = p.ledger.given;
          saved = subst (λ c. ShowsErrors 0 m c) (sym p.fresh) (shows_none m);
          older = subst (λ c. Grown m c) (sym p.fresh) (grown_same m);
          newer = p.ledger.newer;
        } in
        let z : KeptBy call.Lsr (Some (answer.Register r)) base out gone u (kept new) = record
        { next = m; ledger = simp append-nil (rw h y); shows = (rw a (shows_answered (kept old).lsr v base m x), refl) } in
        subst (λ w. KeptBy call.Lsr (Some (answer.Register r)) base out gone w (kept new)) f z

    -- every register is looked at
    dumped : (found low high i j lc m line modem p : ℕ) → (kept new) ≡ noting (kept old) (line ∷ []) (modem ∷ [])
        → Runs d (divisor_look found low high ++ (rd 1 i ∷ rd 2 j ∷ rd 3 lc ∷ rd 4 m ∷ rd 5 line ∷ rd 6 modem ∷ rd 7 p ∷ [])) old.backend new.backend
        → At d meaning law start base (out ++ []) (gone ++ []) σ new.backend (kept new)
    dumped found low high i j lc m line modem p e r =
        let x = pieces.runs_split d meaning law start base σ open_σ (divisor_look found low high) (rd 1 i ∷ rd 2 j ∷ rd 3 lc ∷ rd 4 m ∷ rd 5 line ∷ rd 6 modem ∷ rd 7 p ∷ []) old.backend new.backend r in
        let q = pieces.look_kept d meaning law start base σ open_σ found low high out gone old.backend x.0 (kept old) x.1 l in
        let a = steps.read_ier d meaning law start base out gone σ x.0 (kept old) q open_σ in
        let b = steps.read_isr d meaning law start base out gone σ _ (kept old) a.ledger in
        let c = steps.read_lcr d meaning law start base out gone σ _ (kept old) b.ledger in
        let g = steps.read_mcr d meaning law start base out gone σ _ (kept old) c.ledger in
        let h = steps.read_lsr d meaning law start base out gone σ _ (kept old) g.ledger line x.2.1.1.1.1.0 in
        let v = steps.read_msr d meaning law start base out gone σ _ _ h.ledger in
        let w = steps.read_spr d meaning law start base out gone σ _ _ v.ledger in
        still (noting (kept old) (line ∷ []) (modem ∷ [])) e
        (steps.same_line d meaning law start base out gone σ new.backend (noting (kept old) (line ∷ []) []) (noting (kept old) (line ∷ []) (modem ∷ [])) refl refl
        (subst (λ u. At d meaning law start base out gone σ u (noting (kept old) (line ∷ []) [])) x.2.1.1.1.1.1.1.1 w.ledger))

    -- one read of a register that changes nothing that is kept
    glanced : (at v : ℕ) → Looked d old new at v → At d meaning law start base out gone σ (d.reader.next old.backend at) (kept old) → At d meaning law start base (out ++ []) (gone ++ []) σ new.backend (kept new)
    glanced at v w x = still (kept old) w.keeps (subst (λ u. At d meaning law start base out gone σ u (kept old)) w.ran.1 x)

    -- one read of the modem status, of which other bits are saved then
    modem_read : (v : ℕ) (m : Kept) → kept new ≡ m → m.lsr ≡ old.lsr_saved → m.fifo ≡ old.fifo_enabled → Runs d (rd 6 v ∷ []) old.backend new.backend
        → At d meaning law start base (out ++ []) (gone ++ []) σ new.backend (kept new)
    modem_read v m e f h r = still m e (steps.same_line d meaning law start base out gone σ new.backend (kept old) m f h
        (subst (λ u. At d meaning law start base out gone σ u (kept old)) r.1 (steps.read_msr d meaning law start base out gone σ old.backend (kept old) l).ledger))

    -- a call other than the line status getter
    other : (c : Call) (a : Option Answer) → is_lsr (record { call = c; answer = a }) ≡ false
        → At d meaning law start base (out ++ handed_by c a) (gone ++ taken_by c a) σ new.backend (kept new) → KeptBy c a base out gone new.backend (kept new)
    other c a e x = record { next = base; ledger = x; shows = subst (λ b. ShowsNow b a base (meaning new.backend).receiver.counts base) (sym e) refl }

    pub kept_by : (b c : Call) (a : Option Answer) → Did d old new b c a → KeptBy c a base out gone new.backend (kept new)
    kept_by b c a (try_receive r w) = other c a refl (one_received r w.status w.made)
    kept_by b c a (receive u v i w) = other c a refl (rw (filled_front i (got w.ts) (vec_items u) (vec_items v) w.buffer w.answer) (tried w.ts w.made))
    kept_by b c a (receive_exact u v i r w) = other c a refl (rw (filled_front r.moved (got w.ts) (vec_items u) (vec_items v) w.buffer w.answer) (tried w.ts w.made))
    kept_by b c a (ready_to_receive r w) = other c a refl (still (noting (kept old) (w.status ∷ []) []) w.keeps
        (subst (λ u. At d meaning law start base out gone σ u (noting (kept old) (w.status ∷ []) [])) w.ran.1
        (steps.read_lsr d meaning law start base out gone σ old.backend (kept old) l w.status w.ran.0).ledger))
    kept_by b c a (try_send z r w x) = other c a refl (one_sent z r w)
    kept_by b c a (send v i w) = other c a refl (rw (sent_front (kept old) i (vec_items v) w.tried w.sound w.answer) (attempted (vec_items v) w.tried w.sound w.made))
    kept_by b c a (send_exact v i r w) = other c a refl (rw (sent_front (kept old) r.moved (vec_items v) w.tried w.sound w.answer) (attempted (vec_items v) w.tried w.sound w.made))
    kept_by b c a (ready_to_send r w) = other c a refl (still _ w.keeps (pieces.asked_kept d meaning law start base σ open_σ w.question out gone old.backend new.backend (kept old) w.ran l).ledger)
    kept_by b c a (check_connected r w) = other c a refl (modem_read w.status _ w.keeps refl refl w.ran)
    kept_by b c a (check_present r w e) = other c a refl (still (kept old) e (pieces.probe_kept d meaning law start base σ open_σ r w.0 out gone old.backend new.backend (kept old) w.1 w.2 l))
    kept_by b c a (enable z w) = other c a refl (switched w.enabled _ _ w.keeps refl refl w.ran)
    kept_by b c a (disable z w) = other c a refl (switched w.enabled _ _ w.keeps refl refl w.ran)
    kept_by b c a (ier v w) = other c a refl (glanced _ v w (steps.read_ier d meaning law start base out gone σ old.backend (kept old) l open_σ).ledger)
    kept_by b c a (isr v w) = other c a refl (glanced _ v w (steps.read_isr d meaning law start base out gone σ old.backend (kept old) l).ledger)
    kept_by b c a (lcr v w) = other c a refl (glanced _ v w (steps.read_lcr d meaning law start base out gone σ old.backend (kept old) l).ledger)
    kept_by b c a (mcr v w) = other c a refl (glanced _ v w (steps.read_mcr d meaning law start base out gone σ old.backend (kept old) l).ledger)
    kept_by b c a (lsr v w) = looked w.status v w.ran.0 w.ran.1 w.answer w.keeps
    kept_by b c a (msr v w) = other c a refl (modem_read w.status _ w.keeps refl refl w.ran)
    kept_by b c a (spr v w) = other c a refl (glanced _ v w (steps.read_spr d meaning law start base out gone σ old.backend (kept old) l).ledger)
    kept_by b c a (dll_dlm x y w) = other c a refl (still (kept old) w.keeps (pieces.look_kept d meaning law start base σ open_σ w.lcr x y out gone old.backend new.backend (kept old) w.ran l))
    kept_by b c a (dump v w) = other c a refl (dumped w.found v.dll v.dlm v.ier v.isr v.lcr v.mcr w.line w.modem v.spr w.keeps w.ran)
