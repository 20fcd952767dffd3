-- The configuration: its rate as a number, and its default.
use Rattle.std.specs.Prelude.{◌≡◌, ℕ, false, Some, None}
use Rattle.registers.specs.declared.config.BaudRate.{BaudRate}
use Rattle.registers.specs.declared.config.BaudRate.TheVariants.{Baud115200, Baud57600, Baud38400, Baud9600, Baud4800, Baud2400, Baud1200, Baud600, Baud300, Baud150, Baud110, Custom}
use Rattle.registers.specs.declared.config.Config.{Config}
use Rattle.registers.specs.declared.fcr.FifoTriggerLevel.TheVariants.{Fourteen}
use Rattle.registers.specs.declared.lcr.WordLength.TheVariants.{EightBits}
use Rattle.registers.specs.declared.lcr.Parity.TheVariants.{Disabled}

-- the rate in bits per second
abbrev pub rate : BaudRate → ℕ
rate Baud115200 = 115200
rate Baud57600 = 57600
rate Baud38400 = 38400
rate Baud9600 = 9600
rate Baud4800 = 4800
rate Baud2400 = 2400
rate Baud1200 = 1200
rate Baud600 = 600
rate Baud300 = 300
rate Baud150 = 150
rate Baud110 = 110
rate (Custom r) = r

-- b is the rate n, and is `Custom` only where no named rate is n
pub record NamedRate (n : ℕ) (b : BaudRate) : Type 0 where
  pub value : rate b ≡ n
  pub custom : b ≡ Custom n → (other : BaudRate) → rate other ≡ n → other ≡ Custom n

-- 9600 8N1 at 1.8432 MHz, FIFOs on at level 14, no interrupts, no check of the remote
abbrev pub default : Config
default = record {
  interrupts = 0;
  frequency = 1843200;
  prescaler_division_factor = None;
  fifo_trigger_level = Some Fourteen;
  baud_rate = Baud9600;
  data_bits = EightBits;
  extra_stop_bits = false;
  parity = Disabled;
  check_cts_before_sending = false;
}
