-- What a 16550 holds: its receiver, its transmitter and its set-up.
use Rattle.std.specs.Prelude.{ℕ, Bool, true, false, List}
use Rattle.registers.specs.Flags.{contains, divisor_access, loop_back}
use Rattle.backends.specs.declared.character.Character.{Character}
use Rattle.backends.specs.declared.character.Counts.{Counts}

pub record Receiver : Type 0 where
  -- the unread characters, oldest first
  pub waiting : List Character
  -- all characters that came from the line since the chip was made
  pub arrived : List Character
  -- the error events since then, and how many there were at the last read of the line status
  pub counts : Counts
  pub seen : Counts

pub record Transmitter : Type 0 where
  -- all bytes taken for the line
  pub given : List ℕ
  -- how many of the last of them have not left yet
  pub held : ℕ
  -- looped bytes that have not come round yet, oldest first
  pub turning : List ℕ

pub data Fifos : Type 0 where
  absent : Fifos
  off : Fifos
  on : Fifos

pub record Setup : Type 0 where
  pub lcr : ℕ
  pub mcr : ℕ
  pub dll : ℕ
  pub dlm : ℕ
  pub fifos : Fifos

pub record ChipState : Type 0 where
  pub receiver : Receiver
  pub transmitter : Transmitter
  pub setup : Setup

abbrev pub is_on : Fifos → Bool
is_on absent = false
is_on off = false
is_on on = true

-- how many characters each direction holds
abbrev pub capacity : Fifos → ℕ
capacity absent = 1
capacity off = 1
capacity on = 16

-- offsets 0 and 1 reach the divisor's bytes
abbrev pub divisor_reached : ChipState → Bool
divisor_reached m = contains m.setup.lcr divisor_access

-- loop mode
abbrev pub looping : ChipState → Bool
looping m = contains m.setup.mcr loop_back

abbrev pub with_receiver : ChipState → Receiver → ChipState
with_receiver m r = record { receiver = r; transmitter = m.transmitter; setup = m.setup }

abbrev pub with_transmitter : ChipState → Transmitter → ChipState
with_transmitter m t = record { receiver = m.receiver; transmitter = t; setup = m.setup }

abbrev pub with_setup : ChipState → Setup → ChipState
with_setup m s = record { receiver = m.receiver; transmitter = m.transmitter; setup = s }
