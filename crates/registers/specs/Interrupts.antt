-- The interrupt status register: its low four bits tell the interrupt, by the datasheet's table.
use Rattle.std.specs.Prelude.{◌≡◌, ℕ, ◌%◌, Some, None, Option, ◌≢◌}
use Rattle.registers.specs.declared.isr.InterruptType.{InterruptType}
use Rattle.registers.specs.declared.isr.InterruptType.TheVariants.{ReceiverLineStatus, ReceivedDataReady, ReceptionTimeout, TransmitterHoldingRegisterEmpty, ModemStatus, DmaReceptionEndOfTransfer, DmaTransmissionEndOfTransfer}

-- the low four bits, of which the lowest is clear: an interrupt is pending
abbrev pub interrupt_code : InterruptType → ℕ
interrupt_code ReceiverLineStatus = 0x6
interrupt_code ReceivedDataReady = 0x4
interrupt_code ReceptionTimeout = 0xC
interrupt_code TransmitterHoldingRegisterEmpty = 0x2
interrupt_code ModemStatus = 0x0
interrupt_code DmaReceptionEndOfTransfer = 0xE
interrupt_code DmaTransmissionEndOfTransfer = 0xA

-- which is shown first where several are pending
abbrev pub rank : InterruptType → ℕ
rank ReceiverLineStatus = 1
rank ReceivedDataReady = 2
rank ReceptionTimeout = 2
rank TransmitterHoldingRegisterEmpty = 3
rank ModemStatus = 4
rank DmaReceptionEndOfTransfer = 5
rank DmaTransmissionEndOfTransfer = 6

-- a byte shows the interrupt whose code its low four bits are, and none where they are no code
abbrev pub Decoded : ℕ → Option InterruptType → Type 0
Decoded v (Some t) = interrupt_code t ≡ v % 16
Decoded v None = (t : InterruptType) → interrupt_code t ≢ v % 16
