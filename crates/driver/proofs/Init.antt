-- The steps of `init`, put together.
use Rattle.std.proofs.Common.{◌≡◌, ℕ, ◌+◌, ◌≤◌, Bool, true, false, [], ◌∷◌, ◌++◌, length, Some, None, sym, refl, ap, ◌∙◌, subst, arith}
use Rattle.registers.specs.declared.config.Config.{Config}
use Rattle.registers.specs.declared.error.Wait.TheVariants.{Transmitter}
use Rattle.registers.specs.Config.{rate}
use Rattle.registers.specs.Divisor.{NoDivisor}
use Rattle.registers.specs.Refusal.{Refusal, refusal, during}
use Rattle.backends.specs.Device.{Device, Runs, rd, wr}
use Rattle.driver.specs.declared.uart.Uart16550.{Uart16550}
use Rattle.driver.specs.Kept.{Kept, kept, with_config, with_fifo, with_saved}
use Rattle.driver.specs.Traces.{Ran, Probe, FifoSetUp, Discarded, line_set_up, Opened, opened, DivisorFor, Cleared, polls, noting, StayedBusy, SeenEmpty, Initialised, no_divisor, absent, given_up, done}
use Rattle.driver.proofs.Runs.{runs_append}

-- what changes the FIFO state alone, between two steps that change nothing
pub fifo_alone : (k₀ k₁ k₂ k₃ : Kept) → k₁ ≡ k₀ → k₂ ≡ with_fifo k₁ k₂.fifo → k₃ ≡ k₂ → k₃ ≡ with_fifo k₀ k₃.fifo
fifo_alone k₀ k₁ k₂ k₃ e f h = h ∙ f ∙ ap (λ k. with_fifo k k₂.fifo) e ∙ ap (λ b. with_fifo k₀ b) (ap (λ k. k.fifo) (sym h))

module _ {S : Type 0} (d : Device S) where
  -- the four parts of what init does before its wait
  pub opened_all : (c c₁ : Config) (dv : ℕ) (on on₁ : Bool) (s t u v w : S) → c₁ ≡ c → on₁ ≡ on
      → Runs d (line_set_up c dv) s t → Ran d (FifoSetUp c₁.fifo_trigger_level on₁) t u → Ran d (Discarded 17) u v → Runs d (wr 4 0x0B ∷ []) v w
      → Ran d (Opened c dv on) s w
  opened_all c c₁ dv on on₁ s t u v w e f p q r z = (
    line_set_up c dv ++ q.0 ++ r.0 ++ (wr 4 0x0B ∷ []),
    opened q.0 r.0 (subst (λ b. FifoSetUp c.fifo_trigger_level b q.0) f (subst (λ a. FifoSetUp a.fifo_trigger_level on₁ q.0) e q.1)) r.1,
    runs_append d (line_set_up c dv ++ q.0 ++ r.0) (wr 4 0x0B ∷ []) s v w
        (runs_append d (line_set_up c dv ++ q.0) r.0 s u v (runs_append d (line_set_up c dv) q.0 s t u p q.2) r.2) z,
  )

  module _ (c : Config) (n : ℕ) (u : Uart16550 S) where
    pub none : (x : Refusal) (r : ℕ) (f : ℕ) → r ≡ rate c.baud_rate → f ≡ 0 → NoDivisor c.frequency r c.prescaler_division_factor x
        → Ran d (Initialised c n (kept u) (Some x) f (kept u)) u.backend u.backend
    none x r f e z h = ([], rw z (no_divisor x (rw e at h)), refl)

    pub missing : (dv : ℕ) (v : Uart16550 S) (f : ℕ) → DivisorFor c dv → kept v ≡ with_config (kept u) c → f ≡ 0 → Ran d (Probe false) u.backend v.backend
        → Ran d (Initialised c n (kept u) (Some (refusal 8 [])) f (kept v)) u.backend v.backend
    missing dv v f h e z p = (
      p.0,
      subst (λ k. Initialised c n (kept u) (Some (refusal 8 [])) f k p.0) (sym e) (rw z (absent dv h p.0 p.1)),
      p.2,
    )

    module _ (dv : ℕ) (h : DivisorFor c dv) (v w : Uart16550 S) (p : Ran d (Probe true) u.backend v.backend) (e : kept v ≡ with_config (kept u) c)
        (o : Ran d (Opened v.config dv w.fifo_enabled) v.backend w.backend) (f : kept w ≡ with_fifo (kept v) w.fifo_enabled) where
      open_c : Opened c dv w.fifo_enabled o.0
      open_c = subst (λ a. Opened a dv w.fifo_enabled o.0) (ap (λ k. k.config) e) o.1

      now_kept : kept w ≡ with_fifo (with_config (kept u) c) w.fifo_enabled
      now_kept = f ∙ ap (λ k. with_fifo k w.fifo_enabled) e

      start : Runs d (p.0 ++ o.0) u.backend w.backend
      start = runs_append d p.0 o.0 u.backend v.backend w.backend p.2 o.2

      pub too_long : (x : Uart16550 S) (spent total : ℕ) → spent ≡ 0 → total ≡ n + 1 → StayedBusy d w x spent total
          → Ran d (Initialised c n (kept u) (Some (refusal 9 (during Transmitter ∷ []))) total (kept x)) u.backend x.backend
      too_long x spent total z q b =
          let l : length b.polled ≡ n + 1 = omega (arith, b.count) in
          let l' : total ≡ length b.polled = omega (arith, b.count) in
          let xs = p.0 ++ o.0 ++ polls b.polled in (
            xs,
            subst (λ m. Initialised c n (kept u) (Some (refusal 9 (during Transmitter ∷ []))) m (kept x) xs) (sym l')
                (subst (λ m. Initialised c n (kept u) (Some (refusal 9 (during Transmitter ∷ []))) (length b.polled) m xs)
                (sym (b.keeps ∙ ap (λ m. noting m b.polled []) now_kept))
                (given_up dv h w.fifo_enabled p.0 o.0 p.1 open_c b.polled b.busy l)),
            runs_append d (p.0 ++ o.0) (polls b.polled) u.backend w.backend x.backend start b.ran,
          )

      pub in_time : (x y : Uart16550 S) (t : S) (spent total ints : ℕ) → spent ≡ 0 → total ≤ n → SeenEmpty d w x spent total
          → Ran d Cleared x.backend y.backend → kept y ≡ with_saved (kept x) 0 0 → ints ≡ y.config.interrupts → Runs d (wr 1 ints ∷ []) y.backend t
          → Ran d (Initialised c n (kept u) None total (kept y)) u.backend t
      in_time x y t spent total ints z q b cl e₄ e₅ wi =
          let l : length b.polled ≤ n = omega (arith, b.count) in
          let l' : total ≡ length b.polled = omega (arith, b.count) in
          let vs = b.polled in
          let e₆ : kept y ≡ with_saved (with_fifo (with_config (kept u) c) w.fifo_enabled) 0 0 =
          e₄ ∙ ap (λ m. with_saved m 0 0) (b.keeps ∙ ap (λ m. noting m (vs ++ (b.last ∷ [])) []) now_kept) in
          let e₇ : ints ≡ c.interrupts = e₅ ∙ ap (λ m. m.config.interrupts) e₆ in
          let zs = p.0 ++ o.0 ++ (polls vs ++ (rd 5 b.last ∷ [])) ++ cl.0 ++ (wr 1 c.interrupts ∷ []) in (
            zs,
            subst (λ m. Initialised c n (kept u) None m (kept y) zs) (sym l')
                (subst (λ m. Initialised c n (kept u) None (length vs) m zs) (sym e₆)
                (done dv h w.fifo_enabled p.0 o.0 cl.0 p.1 open_c vs b.last b.busy b.empty l cl.1)),
            runs_append d (p.0 ++ o.0 ++ (polls vs ++ (rd 5 b.last ∷ [])) ++ cl.0) (wr 1 c.interrupts ∷ []) u.backend y.backend t
                (runs_append d (p.0 ++ o.0 ++ (polls vs ++ (rd 5 b.last ∷ []))) cl.0 u.backend x.backend y.backend
                (runs_append d (p.0 ++ o.0) (polls vs ++ (rd 5 b.last ∷ [])) u.backend w.backend x.backend start b.ran) cl.2)
                (subst (λ m. Runs d (wr 1 m ∷ []) y.backend t) e₇ wi),
          )
