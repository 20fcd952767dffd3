use Rattle.std.proofs.Common.{◌≡◌, ℕ, ◌<◌, ◌≤◌, List, get_or, take}
use Rattle.backends.specs.Chip.{ChipState}
use Rattle.ledger.specs.declared.call.Entry.{Entry}
use Rattle.ledger.specs.Did.{SameCall}
use Rattle.ledger.specs.Law.{Played}
use Rattle.ledger.proofs.list.play_all.Given as goal

-- the calls so far were made, each is the same call, and the others are as they were
abbrev pub invariant-loop-entry : goal.invariant-loop-entry
invariant-loop-entry g l = ((ms : List ChipState)
    × Played g.C.Backend.device g.C.Chip.meaning l.initial.uart (take l.entry-index l.calls) ms l.uart)
    × ((i : ℕ) (e : Entry) → i < l.entry-index → SameCall (get_or l.initial.calls i e).call (get_or l.calls i e).call)
    × ((i : ℕ) (e : Entry) → l.entry-index ≤ i → get_or l.calls i e ≡ get_or l.initial.calls i e)
