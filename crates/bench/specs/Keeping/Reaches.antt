-- The receiver's steps are the rules' steps of what it means.
use Rattle.std.specs.Prelude.{◌≡◌, List, [], ◌∷◌, ◌++◌, length, nat_lt, refl}
use Rattle.backends.specs.declared.character.Character.{Character}
use Rattle.backends.specs.declared.character.Counts.{Counts}
use Rattle.backends.specs.Chip.{Fifos as Mode, Transmitter as RulesTransmitter, Setup, is_on, capacity}
use Rattle.backends.specs.Rules.{reach, Takes}
use Rattle.bench.specs.declared.receiver.Receiver.{Receiver}
use Rattle.bench.specs.Meaning.{receiver_of}
use Rattle.bench.specs.Receiver.{reached, data_byte, taken}
use Rattle.bench.specs.Keeping.Cases.{cond_along}

-- a character reaches the receiver as the rules say
pub reach_is : (f : Mode) (c : Character) (r : Receiver) (a came : List Character)
    → receiver_of (a ++ came) (reached f c r) ≡ reach f came c (receiver_of a r)
reach_is f c r a came =
    cond_along (receiver_of (a ++ came)) (nat_lt (length r.queue) (capacity f)) _ _ _ _ refl
    (cond_along (receiver_of (a ++ came)) (is_on f) _ _ _ _ refl refl)

-- a read of the data register takes what the rules say
pub takes_is : (queue : List Character) (n seen : Counts) (a : List Character) (t : RulesTransmitter) (g : Setup)
    → let r : Receiver = record { queue = queue; counts = n; seen = seen } in
    Takes queue (record { receiver = receiver_of a r; transmitter = t; setup = g }) (data_byte queue)
    (record { receiver = receiver_of a (taken r); transmitter = t; setup = g })
takes_is [] n seen a t g = refl
takes_is (c ∷ cs) n seen a t g = (refl, refl)
