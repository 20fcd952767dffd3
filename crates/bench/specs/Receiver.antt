-- The receiving side, step by step.
use Rattle.std.specs.Prelude.{ℕ, ◌+◌, ◌^◌, ◌<◌, Bool, cond, ◌||◌, List, [], ◌∷◌, ◌++◌, length, drop, nat_lt}
use Rattle.std.specs.List.{list_any}
use Rattle.backends.specs.declared.character.Character.{Character}
use Rattle.backends.specs.declared.character.Counts.{Counts}
use Rattle.backends.specs.Chip.{Fifos, is_on, capacity}
use Rattle.backends.specs.Rules.{first, joining, next_first, overrun}
use Rattle.bench.specs.declared.receiver.Receiver.{Receiver}

-- the mark counts can grow by one
abbrev pub Room : Counts → Type 0
Room n = (n.parity + 1 < 2 ^ 64) × (n.framing + 1 < 2 ^ 64) × (n.broken + 1 < 2 ^ 64)

-- a character reaches the receiver: it joins the queue; or the queue is full, and with FIFOs on the newcomer is
-- dropped, and with them off it replaces the waiting one
abbrev pub reached : Fifos → Character → Receiver → Receiver
reached f c r =
    cond (nat_lt (length r.queue) (capacity f))
    (record r { queue = r.queue ++ c ∷ []; counts = joining r.queue c r.counts })
    (cond (is_on f)
    (record r { counts = overrun r.counts })
    (record r { queue = c ∷ []; counts = first c (overrun r.counts) }))

-- what a read of the data register gives
abbrev pub data_byte : List Character → ℕ
data_byte [] = 0
data_byte (c ∷ cs) = c.byte

-- it takes the first of the waiting, and the next becomes the first
abbrev pub taken : Receiver → Receiver
taken r = record r { queue = drop 1 r.queue; counts = next_first (drop 1 r.queue) r.counts }

-- the queue is emptied
abbrev pub emptied : Receiver → Receiver
emptied r = record r { queue = [] }

-- the line status was read
abbrev pub noticed : Receiver → Receiver
noticed r = record r { seen = r.counts }

abbrev pub bears_mark : Character → Bool
bears_mark c = c.parity || (c.framing || c.broken)

abbrev pub any_marked : List Character → Bool
any_marked cs = list_any bears_mark cs
