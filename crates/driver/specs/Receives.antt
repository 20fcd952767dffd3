-- Receiving: what it does on the bus, and which characters it hands out.
use Rattle.std.specs.Prelude.{◌≡◌, ℕ, ◌+◌, ◌<◌, ◌≤◌, Bool, true, false, cond, List, [], ◌∷◌, ◌++◌, length, map, flat_map, count_by, drop, Some, None, Option}
use Rattle.registers.specs.declared.error.Wait.{Wait}
use Rattle.registers.specs.Flags.{contains, data_ready}
use Rattle.registers.specs.Offsets.{at_data, at_lsr}
use Rattle.registers.specs.Refusal.{Refusal, refusal, during}
use Rattle.backends.specs.declared.access.Access.{Access}
use Rattle.backends.specs.Device.{Device, Runs, rd}
use Rattle.driver.specs.declared.uart.Uart16550.{Uart16550}
use Rattle.driver.specs.Kept.{kept}
use Rattle.driver.specs.Traces.{noting}

-- one try to receive: the line status that was read, and the character where it showed one
pub data Try : Type 0 where
  took : ℕ → ℕ → Try
  missed : ℕ → Try

-- the line status shows a character exactly where one was taken
abbrev pub Sound : List Try → Type 0
Sound [] = Unit {0}
Sound (took v b ∷ ts) = (contains v data_ready ≡ true) × Sound ts
Sound (missed v ∷ ts) = (contains v data_ready ≡ false) × Sound ts

-- the accesses of a try, and of tries one after the other
abbrev pub accesses_of : Try → List Access
accesses_of (took v b) = rd at_lsr v ∷ rd at_data b ∷ []
accesses_of (missed v) = rd at_lsr v ∷ []

abbrev pub tries : List Try → List Access
tries ts = flat_map accesses_of ts

-- the byte of the character that a try took, if it took one, and the bytes of all of them
abbrev pub byte_of : Try → List ℕ
byte_of (took v b) = b ∷ []
byte_of (missed v) = []

abbrev pub got : List Try → List ℕ
got ts = flat_map byte_of ts

-- the line status byte that a try read, and those of tries
abbrev pub status_of : Try → ℕ
status_of (took v b) = v
status_of (missed v) = v

abbrev pub statuses : List Try → List ℕ
statuses ts = map status_of ts

-- whether a try found nothing, and how many did
abbrev pub is_miss : Try → Bool
is_miss (took v b) = false
is_miss (missed v) = true

abbrev pub misses : List Try → ℕ
misses ts = count_by is_miss ts

-- a buffer whose first places were filled with these bytes
abbrev pub filled : List ℕ → List ℕ → List ℕ
filled bytes buffer = bytes ++ drop (length bytes) buffer

-- a buffer of this room is filled from the front, until it is full or a try finds nothing
pub data Fills (room : ℕ) : List Try → Type 0 where
  full : (ts : List Try) → misses ts ≡ 0 → length (got ts) ≡ room → Fills room ts
  short : (ts : List Try) (v : ℕ) → misses ts ≡ 0 → length (got ts) < room → Fills room (ts ++ (missed v ∷ []))

-- it is filled to its end, unless n + 1 tries find nothing: then the call ends, in this wait
pub data FillsExactly (room n : ℕ) (w : Wait) : Option Refusal → List Try → Type 0 where
  no_room : room ≡ 0 → FillsExactly room n w None []
  all : (ts : List Try) (v b : ℕ) → misses ts ≤ n → length (got ts) + 1 ≡ room → FillsExactly room n w None (ts ++ (took v b ∷ []))
  cut : (ts : List Try) (v : ℕ) → misses ts ≡ n → length (got ts) < room
      → FillsExactly room n w (Some (refusal 9 (during w ∷ []))) (ts ++ (missed v ∷ []))

-- The calls: from the driver as it was, `old`, to the driver as it is then, `new`

-- one read of the line status, and a refusal where it shows no character
pub record AskedReady {S : Type 0} (d : Device S) (old new : Uart16550 S) (x : Option Refusal) : Type 0 where
  pub status : ℕ
  pub ran : Runs d (rd at_lsr status ∷ []) old.backend new.backend
  pub keeps : kept new ≡ noting (kept old) (status ∷ []) []
  pub answer : x ≡ cond (contains status data_ready) None (Some (refusal 10 []))

-- these tries were made
pub record Made {S : Type 0} (d : Device S) (old new : Uart16550 S) (ts : List Try) : Type 0 where
  pub sound : Sound ts
  pub ran : Runs d (tries ts) old.backend new.backend
  pub keeps : kept new ≡ noting (kept old) (statuses ts) []

-- one try, with the character that it took, if any
abbrev pub one_try : ℕ → Option ℕ → List Try
one_try v None = missed v ∷ []
one_try v (Some b) = took v b ∷ []

pub record ReceivedOne {S : Type 0} (d : Device S) (old new : Uart16550 S) (x : Option ℕ) : Type 0 where
  pub status : ℕ
  pub made : Made d old new (one_try status x)

-- a buffer is filled; the answer is how many bytes it got
pub record Received {S : Type 0} (d : Device S) (old new : Uart16550 S) (before after : List ℕ) (count : ℕ) : Type 0 where
  pub ts : List Try
  pub made : Made d old new ts
  pub fills : Fills (length before) ts
  pub buffer : after ≡ filled (got ts) before
  pub answer : count ≡ length (got ts)

-- a buffer is filled to its end; the answer carries the fruitless tries and the bytes that it got
pub record ReceivedExactly {S : Type 0} (d : Device S) (old new : Uart16550 S) (n : ℕ) (w : Wait)
    (before after : List ℕ) (x : Option Refusal) (fruitless count : ℕ) : Type 0 where
  pub ts : List Try
  pub made : Made d old new ts
  pub fills : FillsExactly (length before) n w x ts
  pub buffer : after ≡ filled (got ts) before
  pub counted : fruitless ≡ misses ts
  pub answer : count ≡ length (got ts)

-- the tries of one character, of which n may find nothing
pub data WaitsFor (n : ℕ) (w : Wait) : Option Refusal → List Try → List ℕ → Type 0 where
  came : (ts : List Try) (v b : ℕ) → misses ts ≤ n → got ts ≡ [] → WaitsFor n w None (ts ++ (took v b ∷ [])) (b ∷ [])
  late : (ts : List Try) (v : ℕ) → misses ts ≡ n → got ts ≡ [] → WaitsFor n w (Some (refusal 9 (during w ∷ []))) (ts ++ (missed v ∷ [])) []
