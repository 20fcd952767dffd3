-- The FIFO control register: bit 0 turns the FIFOs on, bits 1 and 2 empty them, bits 6 and 7 are the trigger level.
use Rattle.std.specs.Prelude.{ℕ, Some, None, Option}
use Rattle.registers.specs.declared.fcr.FifoTriggerLevel.{FifoTriggerLevel}
use Rattle.registers.specs.declared.fcr.FifoTriggerLevel.TheVariants.{One, Four, Eight, Fourteen}

-- the two-bit code of a trigger level
abbrev pub trigger_code : FifoTriggerLevel → ℕ
trigger_code One = 0
trigger_code Four = 1
trigger_code Eight = 2
trigger_code Fourteen = 3

-- the byte that empties both FIFOs, and with a level turns them on
abbrev pub fifo_control : Option FifoTriggerLevel → ℕ
fifo_control None = 0x06
fifo_control (Some One) = 0x07
fifo_control (Some Four) = 0x47
fifo_control (Some Eight) = 0x87
fifo_control (Some Fourteen) = 0xC7
