-- The closed list of refusals: the number of the question that was answered no, and the values that go with it.
use Rattle.std.specs.Prelude.{ℕ, List, [], ◌∷◌, Option}
use Rattle.registers.specs.declared.error.InvalidDivisorError.{InvalidDivisorError}
use Rattle.registers.specs.declared.error.InvalidDivisorError.TheVariants.{ZeroFrequency, ZeroBaudRate, InvalidPrescaler, NonInteger, OutOfRange}
use Rattle.registers.specs.declared.error.InvalidBaudRateError.{InvalidBaudRateError}
use Rattle.registers.specs.declared.error.InvalidBaudRateError.TheVariants.{ZeroFrequency as NoFrequency, ZeroDivisor, InvalidPrescaler as LargePrescaler, NonInteger as NonIntegerRate}
use Rattle.registers.specs.declared.error.Wait.{Wait}
use Rattle.registers.specs.declared.error.BudgetError.{BudgetError}
use Rattle.registers.specs.declared.error.InitError.{InitError}
use Rattle.registers.specs.declared.error.InitError.TheVariants.{DeviceNotPresent, InvalidBaudRate, BudgetUsedUp}
use Rattle.registers.specs.declared.error.InvalidAddressError.{InvalidAddressError}
use Rattle.registers.specs.declared.error.InvalidAddressError.TheVariants.{InvalidBaseAddress, InvalidStride}
use Rattle.registers.specs.declared.error.ByteReceiveError.{ByteReceiveError}
use Rattle.registers.specs.declared.error.ByteSendError.{ByteSendError}
use Rattle.registers.specs.declared.error.ByteSendError.TheVariants.{NoCapacity, RemoteNotClearToSend}
use Rattle.registers.specs.declared.error.RemoteReadyToReceiveError.{RemoteReadyToReceiveError}
use Rattle.registers.specs.declared.error.RemoteReadyToReceiveError.TheVariants.{NoRemoteConnectedNoDSR, RemoteNotClearToSend as NoCts}
use Rattle.registers.specs.declared.error.LoopbackError.{LoopbackError}
use Rattle.registers.specs.declared.error.LoopbackError.TheVariants.{SendError, UnexpectedLoopbackByte, UnexpectedLoopbackMsg, BudgetUsedUp as UsedUp}

-- a value that a refusal carries
pub data Value : Type 0 where
  amount : ℕ → Value
  optional : Option ℕ → Value
  during : Wait → Value

pub record Refusal : Type 0 where
  pub number : ℕ
  pub values : List Value

abbrev pub refusal : ℕ → List Value → Refusal
refusal n vs = record { number = n; values = vs }

-- why there is no divisor
abbrev pub divisor_refusal : InvalidDivisorError → Refusal
divisor_refusal ZeroFrequency = refusal 3 []
divisor_refusal ZeroBaudRate = refusal 4 []
divisor_refusal InvalidPrescaler = refusal 5 []
divisor_refusal (NonInteger e) = refusal 6 (amount e.frequency ∷ amount e.baud_rate ∷ optional e.prescaler_division_factor ∷ [])
divisor_refusal (OutOfRange q) = refusal 7 (amount q ∷ [])

-- why there is no rate
abbrev pub baud_refusal : InvalidBaudRateError → Refusal
baud_refusal NoFrequency = refusal 3 []
baud_refusal ZeroDivisor = refusal 18 []
baud_refusal LargePrescaler = refusal 5 []
baud_refusal (NonIntegerRate e) = refusal 19 (amount e.frequency ∷ amount e.divisor ∷ optional e.prescaler_division_factor ∷ [])

-- why a call gave up waiting
abbrev pub budget_refusal : BudgetError → Refusal
budget_refusal e = refusal 9 (during e.wait ∷ [])

-- why a device was not initialised
abbrev pub init_refusal : InitError → Refusal
init_refusal DeviceNotPresent = refusal 8 []
init_refusal (InvalidBaudRate e) = divisor_refusal e
init_refusal (BudgetUsedUp e) = budget_refusal e

-- why registers cannot stand at an address
abbrev pub address_refusal : InvalidAddressError → Refusal
address_refusal (InvalidStride s) = refusal 1 (amount s ∷ [])
address_refusal (InvalidBaseAddress a) = refusal 2 (amount a ∷ [])

-- why nothing was received
abbrev pub receive_refusal : ByteReceiveError → Refusal
receive_refusal e = refusal 10 []

-- why nothing can be sent
abbrev pub send_refusal : ByteSendError → Refusal
send_refusal NoCapacity = refusal 11 []
send_refusal RemoteNotClearToSend = refusal 12 []

-- why the remote is not ready
abbrev pub remote_refusal : RemoteReadyToReceiveError → Refusal
remote_refusal NoRemoteConnectedNoDSR = refusal 13 []
remote_refusal NoCts = refusal 14 []

-- why the loopback test failed: a send fault goes by its own number, a wrong byte is carried whole
abbrev pub loopback_refusal : LoopbackError → Refusal
loopback_refusal (SendError e) = refusal 15 (amount (send_refusal e).number ∷ [])
loopback_refusal (UnexpectedLoopbackByte actual) = refusal 16 (amount actual ∷ [])
loopback_refusal UnexpectedLoopbackMsg = refusal 17 []
loopback_refusal (UsedUp e) = budget_refusal e
