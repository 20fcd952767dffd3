-- The pieces that calls are made of, and the ledger.
use Rattle.std.proofs.Common.{◌≡◌, ℕ, ◌+◌, ◌≤◌, Bool, true, false, cond, ◌||◌, List, [], ◌∷◌, ◌++◌, length, take, drop, None, sym, refl, ap, ◌∙◌, subst, append_assoc, append-nil, arith, length-take}
use lib.Bits.{bit_or}
use Rattle.std.proofs.lemmas.Bool.{eqb-true}
use Rattle.registers.specs.Flags.{contains, thr_empty, divisor_access}
use Rattle.backends.specs.declared.access.Access.{Access}
use Rattle.backends.specs.declared.character.Counts.{Counts}
use Rattle.backends.specs.Chip.{ChipState, Setup, Fifos, absent, off, on, is_on, capacity}
use Rattle.backends.specs.Device.{Device, Runs, wr}
use Rattle.backends.specs.Rules.{KeepsRules, idle, with_lcr}
use Rattle.driver.specs.Kept.{Kept}
use Rattle.driver.specs.Traces.{noting, Probe, probe, Patterns, both_back, first_lost, second_lost}
use Rattle.driver.specs.Receives.{Try, took, missed, Sound, tries, got, statuses}
use Rattle.driver.specs.Sends.{Question, status, control, lines, asks, line_status, modem_status, Answers, unchecked, looped, clear, Attempt, Attempted, wrote, refused, Attempts, attempts, taken, writes_of, line_statuses, modem_statuses, burst}
use Rattle.driver.specs.Getters.{divisor_look}
use Rattle.driver.proofs.Tries.{noting_append}
use Rattle.ledger.proofs.Ledger.{load}
use Rattle.ledger.proofs.Steps.{At, read_mcr, read_msr, read_spr, write_spr, read_lcr, lcr_is, read_dll, read_dlm, write_lcr, read_lsr, read_data, write_data, same_line}
use Rattle.ledger.proofs.Shown.{contains_or}

any_true : (b : Bool) → (b || contains divisor_access divisor_access) ≡ true
unfolding contains
any_true true = refl
any_true false = refl

module _ {S : Type 0} (d : Device S) (meaning : S → ChipState) (law : KeepsRules d meaning) (start : ChipState) (base : Counts) (σ : Setup)
    (open_σ : contains σ.lcr divisor_access ≡ false) where
  -- a run is two runs
  pub runs_split : (xs ys : List Access) (s t : S) → Runs d (xs ++ ys) s t → (u : S) × Runs d xs s u × Runs d ys u t
  runs_split [] ys s t r = (s, refl, r)
  runs_split (a ∷ xs) ys s t r = let q = runs_split xs ys _ t r.1 in (q.0, (r.0, q.1), q.2)

  -- tries to receive: what they took is handed out
  pub tries_kept : (ts : List Try) (out gone : List ℕ) (s t : S) (k : Kept) → Sound ts → Runs d (tries ts) s t → At d meaning law start base out gone σ s k
      → At d meaning law start base (out ++ got ts) gone σ t (noting k (statuses ts) [])
  tries_kept [] out gone s t k h r l = rw append-nil (subst (λ u. At d meaning law start base out gone σ u k) r l)
  tries_kept (took v b ∷ ts) out gone s t k h r l =
      let p = read_lsr d meaning law start base out gone σ s k l v r.0 in
      let q = read_data d meaning law start base out gone σ _ _ p.ledger b r.1.0 open_σ (sym p.ready ∙ h.0) in
      subst (λ o. At d meaning law start base o gone σ t (noting k (v ∷ statuses ts) [])) (append_assoc out (b ∷ []) (got ts))
      (tries_kept ts (out ++ (b ∷ [])) gone _ t _ h.1 r.1.1 q)
  tries_kept (missed v ∷ ts) out gone s t k h r l =
      let p = read_lsr d meaning law start base out gone σ s k l v r.0 in
      tries_kept ts out gone _ t _ h.1 r.1 p.ledger

  -- bytes written while there is room for them
  pub writes_kept : (bs out gone : List ℕ) (i : ℕ) (s t : S) (k : Kept) → load (meaning s) ≤ i → i + length bs ≤ capacity σ.fifos → Runs d (writes_of bs) s t
      → At d meaning law start base out gone σ s k → At d meaning law start base out (gone ++ bs) σ t k
  writes_kept [] out gone i s t k h c r l = rw append-nil (subst (λ u. At d meaning law start base out gone σ u k) r l)
  writes_kept (b ∷ bs) out gone i s t k h c r l =
      let p = write_data d meaning law start base out gone σ s k l b i open_σ h (omega arith) in
      subst (λ o. At d meaning law start base out o σ t k) (append_assoc gone (b ∷ []) bs)
      (writes_kept bs out (gone ++ (b ∷ [])) (i + 1) _ t k p.1 (omega arith) r.1 p.0)

  -- a question whether something may be sent
  pub record Asked (q : Question) (out gone : List ℕ) (t : S) (k : Kept) : Type 0 where
    pub ledger : At d meaning law start base out gone σ t (noting k (line_status q ∷ []) (modem_status q))
    pub free : contains (line_status q) thr_empty ≡ true → load (meaning t) ≡ 0

  idle_load : (m : ChipState) (v : ℕ) → contains v thr_empty ≡ idle m.transmitter → contains v thr_empty ≡ true → load m ≡ 0
  idle_load m v e h = eqb-true (load m) 0 (sym e ∙ h)

  pub asked_kept : (q : Question) (out gone : List ℕ) (s t : S) (k : Kept) → Runs d (asks q) s t → At d meaning law start base out gone σ s k → Asked q out gone t k
  asked_kept (status v) out gone s t k r l =
      let p = read_lsr d meaning law start base out gone σ s k l v r.0 in
      subst (λ u. Asked (status v) out gone u k) r.1 (record { ledger = p.ledger; free = idle_load (meaning (d.reader.next s 5)) v p.room })
  asked_kept (control v m) out gone s t k r l =
      let p = read_lsr d meaning law start base out gone σ s k l v r.0 in
      let q = read_mcr d meaning law start base out gone σ _ _ p.ledger in
      subst (λ u. Asked (control v m) out gone u k) r.1.1 (record { ledger = q.ledger; free = λ h. let z : load (meaning (d.reader.next s 5)) ≡ 0 = idle_load (meaning (d.reader.next s 5)) v p.room h in omega (arith, q.less) })
  asked_kept (lines v m z) out gone s t k r l =
      let p = read_lsr d meaning law start base out gone σ s k l v r.0 in
      let q = read_mcr d meaning law start base out gone σ _ _ p.ledger in
      let w = read_msr d meaning law start base out gone σ _ _ q.ledger in
      subst (λ u. Asked (lines v m z) out gone u k) r.1.1.1
      (record { ledger = same_line d meaning law start base out gone σ _ _ _ refl refl w.ledger; free = λ h. let f : load (meaning (d.reader.next s 5)) ≡ 0 = idle_load (meaning (d.reader.next s 5)) v p.room h in omega (arith, q.less, w.less) })

  yes_free : (b : Bool) (q : Question) → Answers b q None → contains (line_status q) thr_empty ≡ true
  yes_free b q (unchecked v e h) = h
  yes_free b q (looped v m e h j) = h
  yes_free b q (clear v m s e h j i) = h

  burst_room : (f : Fifos) (b : Bool) → b ≡ is_on f → cond b 16 1 ≡ capacity f
  burst_room absent b e = ap (λ x. cond x 16 1) e
  burst_room off b e = ap (λ x. cond x 16 1) e
  burst_room on b e = ap (λ x. cond x 16 1) e

  -- one attempt to send: the line is given its bytes
  attempt_kept : (a : Attempt) (out gone buffer : List ℕ) (s u t : S) (k n : Kept) → n.fifo ≡ k.fifo → Attempted n buffer a
      → Runs d (asks a.question) s u → Runs d (writes_of a.bytes) u t → At d meaning law start base out gone σ s k
      → At d meaning law start base out (gone ++ a.bytes) σ t (noting k (line_status a.question ∷ []) (modem_status a.question))
  attempt_kept a out gone buffer s u t k n e (wrote q h) r w l =
      let p = asked_kept q out gone s u k r l in
      let f = p.free (yes_free _ q h) in
      let b = burst_room σ.fifos n.fifo (e ∙ l.fifo) in
      let j = length-take (burst n) buffer in
      writes_kept (take (burst n) buffer) out gone 0 u t _ (omega arith) (omega arith) w p.ledger
  attempt_kept a out gone buffer s u t k n e (refused q x h) r w l =
      let p = asked_kept q out gone s u k r l in
      rw append-nil (subst (λ v. At d meaning law start base out gone σ v (noting k (line_status q ∷ []) (modem_status q))) w p.ledger)

  -- attempts to send: what they took is given to the line
  pub attempts_kept : (as' : List Attempt) (out gone buffer : List ℕ) (s t : S) (k n : Kept) → n.fifo ≡ k.fifo → Attempts n buffer as' → Runs d (attempts as') s t
      → At d meaning law start base out gone σ s k → At d meaning law start base out (gone ++ taken as') σ t (noting k (line_statuses as') (modem_statuses as'))
  attempts_kept [] out gone buffer s t k n e h r l = rw append-nil (subst (λ u. At d meaning law start base out gone σ u k) r l)
  attempts_kept (a ∷ as') out gone buffer s t k n e h r l =
      let x = runs_split (asks a.question ++ writes_of a.bytes) (attempts as') s t r in
      let y = runs_split (asks a.question) (writes_of a.bytes) s x.0 x.1 in
      let p = attempt_kept a out gone buffer s y.0 x.0 k n e h.1 y.1 y.2 l in
      let m = noting k (line_status a.question ∷ []) (modem_status a.question) in
      let f = attempts_kept as' out (gone ++ a.bytes) (drop (length a.bytes) buffer) x.0 t m n e h.2 x.2 p in
      subst (λ o. At d meaning law start base out o σ t (noting k (line_status a.question ∷ line_statuses as') (modem_status a.question ++ modem_statuses as'))) (append_assoc gone a.bytes (taken as'))
      (subst (λ o. At d meaning law start base out ((gone ++ a.bytes) ++ taken as') σ t o)
      (noting_append k (line_status a.question ∷ []) (modem_status a.question) (line_statuses as') (modem_statuses as')) f)

  -- patterns to the scratch register, and its old byte
  patterns_kept : (r : Bool) (xs : List Access) (out gone : List ℕ) (s t : S) (k : Kept) → Patterns r xs → Runs d xs s t → At d meaning law start base out gone σ s k → At d meaning law start base out gone σ t k
  patterns_kept r xs out gone s t k both_back w l =
      let a = write_spr d meaning law start base out gone σ s k l 0x42 in
      let b = read_spr d meaning law start base out gone σ _ k a.ledger in
      let c = write_spr d meaning law start base out gone σ _ k b.ledger 0x73 in
      let e = read_spr d meaning law start base out gone σ _ k c.ledger in
      subst (λ u. At d meaning law start base out gone σ u k) w.1.1.1.1 e.ledger
  patterns_kept r xs out gone s t k (first_lost v h) w l =
      let a = write_spr d meaning law start base out gone σ s k l 0x42 in
      let b = read_spr d meaning law start base out gone σ _ k a.ledger in
      subst (λ u. At d meaning law start base out gone σ u k) w.1.1 b.ledger
  patterns_kept r xs out gone s t k (second_lost v h) w l =
      let a = write_spr d meaning law start base out gone σ s k l 0x42 in
      let b = read_spr d meaning law start base out gone σ _ k a.ledger in
      let c = write_spr d meaning law start base out gone σ _ k b.ledger 0x73 in
      let e = read_spr d meaning law start base out gone σ _ k c.ledger in
      subst (λ u. At d meaning law start base out gone σ u k) w.1.1.1.1 e.ledger

  pub probe_kept : (r : Bool) (xs : List Access) (out gone : List ℕ) (s t : S) (k : Kept) → Probe r xs → Runs d xs s t → At d meaning law start base out gone σ s k → At d meaning law start base out gone σ t k
  probe_kept r xs out gone s t k (probe old ys p) w l =
      let a = read_spr d meaning law start base out gone σ s k l in
      let x = runs_split ys (wr 7 old ∷ []) _ t w.1 in
      let b = patterns_kept r ys out gone _ x.0 k p x.1 a.ledger in
      let c = write_spr d meaning law start base out gone σ x.0 k b old in
      subst (λ u. At d meaning law start base out gone σ u k) x.2.1 c.ledger

  dlab_set : (v : ℕ) → contains (bit_or v divisor_access) divisor_access ≡ true
  dlab_set v = contains_or 7 v divisor_access ∙ any_true (contains v divisor_access)

  -- the divisor's bytes are looked at: the line control is as it was
  pub look_kept : (v a b : ℕ) (out gone : List ℕ) (s t : S) (k : Kept) → Runs d (divisor_look v a b) s t → At d meaning law start base out gone σ s k → At d meaning law start base out gone σ t k
  look_kept v a b out gone s t k r l =
      let e : v ≡ σ.lcr = r.0 ∙ lcr_is d meaning law start base out gone σ s k l in
      let p = read_lcr d meaning law start base out gone σ s k l in
      let q = write_lcr d meaning law start base out gone σ _ k p.ledger (bit_or v divisor_access) in
      let x = read_dll d meaning law start base out gone (with_lcr σ (bit_or v divisor_access)) _ k q (dlab_set v) in
      let y = read_dlm d meaning law start base out gone (with_lcr σ (bit_or v divisor_access)) _ k x.ledger (dlab_set v) in
      let z = write_lcr d meaning law start base out gone (with_lcr σ (bit_or v divisor_access)) _ k y.ledger v in
      subst (λ u. At d meaning law start base out gone σ u k) r.1.1.1.1.1
      (subst (λ c. At d meaning law start base out gone (with_lcr σ c) (d.write (d.reader.next (d.reader.next (d.write (d.reader.next s 3) 3 (bit_or v divisor_access)) 0) 1) 3 v) k) e z)
