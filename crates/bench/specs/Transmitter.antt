-- The sending side, step by step.
use Rattle.std.specs.Prelude.{ℕ, ◌+◌, Bool, cond, [], ◌∷◌, ◌++◌, length, nat_lt}
use Rattle.bench.specs.declared.transmitter.Transmitter.{Transmitter}

-- how many bytes have neither left nor come round
abbrev pub filling : Transmitter → ℕ
filling t = length t.held + length t.turning

-- a byte is taken where there is room
abbrev pub sent : Bool → ℕ → ℕ → Transmitter → Transmitter
sent loops room v t =
    cond (nat_lt (filling t) room)
    (cond loops
    (record t { turning = t.turning ++ v ∷ [] })
    (record t { held = t.held ++ v ∷ [] }))
    t

-- all bytes vanish
abbrev pub struck : Transmitter
struck = record { held = []; turning = [] }

-- loop mode ends
abbrev pub unlooped : Transmitter → Transmitter
unlooped t = record t { turning = [] }
