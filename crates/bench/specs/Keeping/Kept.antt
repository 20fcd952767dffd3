-- Each step of the chip keeps it sound.
use Rattle.std.specs.Prelude.{◌≡◌, ℕ, ◌+◌, ◌≤◌, Bool, true, false, List, [], ◌∷◌, ◌++◌, length, drop, ◌==◌, nat_lt}
use Rattle.std.proofs.Common.{arith, length-drop}
use Rattle.std.proofs.lemmas.List.{length_push}
use Rattle.std.proofs.lemmas.Bool.{ltb-true, cond_both}
use Rattle.registers.specs.Flags.{contains, fifo_enable, rx_fifo_reset}
use Rattle.backends.specs.declared.character.Character.{Character}
use Rattle.backends.specs.declared.character.Counts.{Counts}
use Rattle.backends.specs.Chip.{Fifos as Mode, is_on, capacity, absent, off, on}
use Rattle.backends.specs.Rules.{first, joining, next_first, overrun, one_more, unmarked}
use Rattle.bench.specs.declared.chip_core.Core.{Core}
use Rattle.bench.specs.declared.receiver.Receiver.{Receiver}
use Rattle.bench.specs.declared.settings.Fifos.{Fifos}
use Rattle.bench.specs.declared.settings.Fifos.TheVariants.{Absent, Off, On}
use Rattle.bench.specs.Receiver.{Room, reached, taken, emptied, noticed}
use Rattle.bench.specs.Settings.{mode, reaches_divisor, scratch_kept, with_lcr}
use Rattle.bench.specs.Core.{accepting, come_round, reaching, turned, data_answered, answered, controlled, switched, reset, modem_controlled, data_written, interrupts_kept, written, with_receiver, with_settings, with_modem}
use Rattle.bench.specs.Modem.{unchanged}
use Rattle.bench.specs.Table.{entry_of}
use Rattle.bench.specs.Sound.{one, marks, Within, Counted, Sound}

-- what is true of each entry is true of the one that is taken
each_entry : {A : Type 0} (P : A → Type 0) (k : ℕ) (a b c d e f g h : A) → P a → P b → P c → P d → P e → P f → P g → P h → P (entry_of k a b c d e f g h)
each_entry P k a b c d e f g h pa pb pc pd pe pf pg ph =
    cond_both (k == 0) a _ P (λ _. pa) (λ _. cond_both (k == 1) b _ P (λ _. pb) (λ _. cond_both (k == 2) c _ P (λ _. pc)
    (λ _. cond_both (k == 3) d _ P (λ _. pd) (λ _. cond_both (k == 4) e _ P (λ _. pe) (λ _. cond_both (k == 5) f _ P (λ _. pf)
    (λ _. cond_both (k == 6) g h P (λ _. pg) (λ _. ph)))))))

pub capacity_most : (f : Mode) → capacity f ≤ 16
capacity_most absent = omega arith
capacity_most off = omega arith
capacity_most on = omega arith

-- there is always room for one
capacity_least : (f : Mode) → 1 ≤ capacity f
capacity_least absent = omega arith
capacity_least off = omega arith
capacity_least on = omega arith

one_more_is : (b : Bool) (n : ℕ) → one_more b n ≡ n + one b
one_more_is true n = omega arith
one_more_is false n = omega arith

one_most : (b : Bool) → one b ≤ 1
one_most true = omega arith
one_most false = omega arith

-- the mark f, at its count
module _ (f : Character → Bool) where
  marks_push : (cs : List Character) (c : Character) → marks f (cs ++ c ∷ []) ≡ marks f cs + one (f c)
  marks_push [] c = omega arith
  marks_push (x ∷ cs) c = omega (arith, marks_push cs c)

  -- a character that becomes the first of an empty queue is counted
  alone_within : (n m : ℕ) (cs : List Character) (c : Character) → Within f n cs m → Within f (one_more (f c) n) (c ∷ []) (m + one (f c))
  alone_within n m cs c h = omega (arith, one_more_is (f c) n)

  -- behind others it is not counted yet
  behind_within : (n m : ℕ) (x : Character) (cs : List Character) (c : Character)
      → Within f n (x ∷ cs) m → Within f n (x ∷ cs ++ c ∷ []) (m + one (f c))
  behind_within n m x cs c h = omega (arith, marks_push cs c)

  -- the first is taken out, and the next is counted
  next_within : (n m : ℕ) (x y : Character) (cs : List Character) → Within f n (x ∷ y ∷ cs) m → Within f (one_more (f y) n) (y ∷ cs) m
  next_within n m x y cs h = omega (arith, one_more_is (f y) n)

-- m characters came, and with c from the line there are m'
abbrev pub Grows : Character → ℕ → ℕ → Type 0
Grows c m m' = (m + one c.parity ≤ m') × (m + one c.framing ≤ m') × (m + one c.broken ≤ m')

-- one from the line
pub grows_one : (c : Character) (m : ℕ) → Grows c m (m + 1)
grows_one c m = (omega (arith, one_most c.parity), omega (arith, one_most c.framing), omega (arith, one_most c.broken))

-- one that came round bears no mark
pub grows_none : (b m : ℕ) → Grows (unmarked b) m m
grows_none b m = (omega arith, omega arith, omega arith)

module _ (c : Character) (m m' : ℕ) (g : Grows c m m') where
  alone_counted : (n : Counts) (cs : List Character) → Counted n cs m → Counted (first c n) (c ∷ []) m'
  alone_counted n cs h = (
    omega (arith, alone_within (λ c. c.parity) n.parity m cs c h.0),
    omega (arith, alone_within (λ c. c.framing) n.framing m cs c h.1),
    omega (arith, alone_within (λ c. c.broken) n.broken m cs c h.2),
  )

  -- it joins those that wait
  joins_counted : (n : Counts) (cs : List Character) → Counted n cs m → Counted (joining cs c n) (cs ++ c ∷ []) m'
  joins_counted n [] h = alone_counted n [] h
  joins_counted n (x ∷ cs) h = (
    omega (arith, behind_within (λ c. c.parity) n.parity m x cs c h.0),
    omega (arith, behind_within (λ c. c.framing) n.framing m x cs c h.1),
    omega (arith, behind_within (λ c. c.broken) n.broken m x cs c h.2),
  )

  more_counted : (n : Counts) (cs : List Character) → Counted n cs m → Counted n cs m'
  more_counted n cs h = (omega arith, omega arith, omega arith)

  reached_counted : (f : Mode) (r : Receiver) → Counted r.counts r.queue m → Counted (reached f c r).counts (reached f c r).queue m'
  reached_counted f r h =
      let P : Receiver → Type 0 = λ q. Counted q.counts q.queue m' in
      cond_both (nat_lt (length r.queue) (capacity f)) _ _ P
      (λ _. joins_counted r.counts r.queue h)
      (λ _. cond_both (is_on f) _ _ P (λ _. more_counted r.counts r.queue h) (λ _. alone_counted (overrun r.counts) r.queue h))

none_counted : (n : Counts) (m : ℕ) (cs : List Character) → Counted n cs m → Counted n [] m
none_counted n m cs h = (omega arith, omega arith, omega arith)

-- the first is taken, and the next is counted
taken_counted : (m : ℕ) (cs : List Character) (n : Counts) → Counted n cs m → Counted (next_first (drop 1 cs) n) (drop 1 cs) m
taken_counted m [] n h = h
taken_counted m (x ∷ []) n h = none_counted n m (x ∷ []) h
taken_counted m (x ∷ y ∷ cs) n h = (
  next_within (λ c. c.parity) n.parity m x y cs h.0,
  next_within (λ c. c.framing) n.framing m x y cs h.1,
  next_within (λ c. c.broken) n.broken m x y cs h.2,
)

-- a newcomer joins where there is room, is dropped, or stands alone
pub reached_bounded : (c : Character) (f : Mode) (r : Receiver) → length r.queue ≤ capacity f → length (reached f c r).queue ≤ capacity f
reached_bounded c f r h =
    let P : Receiver → Type 0 = λ q. length q.queue ≤ capacity f in
    cond_both (nat_lt (length r.queue) (capacity f)) _ _ P
    (λ e. omega (arith, ltb-true (length r.queue) (capacity f) e, length_push r.queue c))
    (λ _. cond_both (is_on f) _ _ P (λ _. h) (λ _. omega (arith, capacity_least f)))

-- The chip itself

-- the counts of a sound chip can grow
pub sound_room : (m : ℕ) (s : Core) → m ≤ 65535 → Sound m s → Room s.receiver.counts
sound_room m s l h = (omega arith, omega arith, omega arith)

come_round_sound : (m : ℕ) (bs : List ℕ) (s : Core) → Sound m s → Sound m (come_round bs s)
come_round_sound m [] s h = h
come_round_sound m (b ∷ bs) s h = (
  reached_counted (unmarked b) m m (grows_none b m) (mode s.settings.fifos) s.receiver h.0,
  reached_bounded (unmarked b) (mode s.settings.fifos) s.receiver h.1,
)

-- a character arrives from the line
pub arrived_sound : (c : Character) (m : ℕ) (s : Core) → Sound m s → Sound (m + 1) (with_receiver s (reaching s c))
arrived_sound c m s h = (
  reached_counted c m (m + 1) (grows_one c m) (mode s.settings.fifos) s.receiver h.0,
  reached_bounded c (mode s.settings.fifos) s.receiver h.1,
)

pub turned_sound : (m : ℕ) (s : Core) → Sound m s → Sound m (turned s)
turned_sound m s h = cond_both (accepting s) _ s (λ t. Sound m t) (λ _. come_round_sound m s.transmitter.turning s h) (λ _. h)

-- a read takes one character at most
pub taken_sound : (m : ℕ) (s : Core) → Sound m s → Sound m (with_receiver s (taken s.receiver))
taken_sound m s h = (taken_counted m s.receiver.queue s.receiver.counts h.0, omega (arith, length-drop 1 s.receiver.queue))

pub answered_sound : (m : ℕ) (s : Core) (k : ℕ) → Sound m s → Sound m (answered s k)
answered_sound m s k h =
    each_entry (λ t. Sound m t) k (data_answered s) s s s s (with_receiver s (noticed s.receiver)) (with_modem s (unchanged s.modem)) s
    (cond_both (reaches_divisor s.settings) s _ (λ t. Sound m t) (λ _. h) (λ _. taken_sound m s h))
    h h h h h h h

switched_sound : (m : ℕ) (f : Fifos) (s : Core) → Sound m s → Sound m (switched f s)
switched_sound m f s h = (none_counted s.receiver.counts m s.receiver.queue h.0, omega arith)

reset_sound : (m v : ℕ) (s : Core) → Sound m s → Sound m (reset v s)
reset_sound m v s h =
    cond_both (contains v rx_fifo_reset) (emptied s.receiver) s.receiver
    (λ r. Sound m (with_receiver s r)) (λ _. (none_counted s.receiver.counts m s.receiver.queue h.0, omega arith)) (λ _. h)

controlled_sound : (m : ℕ) (f : Fifos) (v : ℕ) (s : Core) → Sound m s → Sound m (controlled f v s)
controlled_sound m Absent v s h = h
controlled_sound m Off v s h = cond_both (contains v fifo_enable) (switched On s) s (λ t. Sound m t) (λ _. switched_sound m On s h) (λ _. h)
controlled_sound m On v s h =
    cond_both (contains v fifo_enable) (reset v s) (switched Off s) (λ t. Sound m t) (λ _. reset_sound m v s h) (λ _. switched_sound m Off s h)

data_written_sound : (m : ℕ) (s : Core) (v : ℕ) → Sound m s → Sound m (data_written s v)
data_written_sound m s v h = cond_both (reaches_divisor s.settings) _ _ (λ t. Sound m t) (λ _. h) (λ _. h)

-- offset 1 is written: the FIFOs stay as they are
interrupts_kept_sound : (m v : ℕ) (s : Core) → Sound m s → Sound m (with_settings s (interrupts_kept v s.settings))
interrupts_kept_sound m v s h = cond_both (reaches_divisor s.settings) _ _ (λ g. Sound m (with_settings s g)) (λ _. h) (λ _. h)

pub written_sound : (m : ℕ) (s : Core) (k v : ℕ) → Sound m s → Sound m (written s k v)
written_sound m s k v h =
    each_entry (λ t. Sound m t) k (data_written s v) (with_settings s (interrupts_kept v s.settings)) (controlled s.settings.fifos v s)
    (with_settings s (with_lcr s.settings v)) (modem_controlled v s) s s (with_settings s (scratch_kept v s.settings))
    (data_written_sound m s v h) (interrupts_kept_sound m v s h) (controlled_sound m s.settings.fifos v s h) h h h h h
