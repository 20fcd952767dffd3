-- The list of divisors that give an integer rate at the usual clock.
use Rattle.std.specs.Prelude.{◌≡◌, ℕ, ◌*◌, ◌≤◌}
use Rattle.registers.specs.declared.divisors.Divisor.{Divisor}
use Rattle.registers.specs.declared.divisors.Divisor.TheVariants.{Divisor1, Divisor2, Divisor3, Divisor4, Divisor5, Divisor6, Divisor8, Divisor9, Divisor10, Divisor12, Divisor15, Divisor16, Divisor18, Divisor20, Divisor24, Divisor25, Divisor30, Divisor32, Divisor36, Divisor40, Divisor45, Divisor48, Divisor50, Divisor60, Divisor64, Divisor72, Divisor75, Divisor80, Divisor90, Divisor96, Divisor100, Divisor120, Divisor128, Divisor144, Divisor150, Divisor160, Divisor180, Divisor192, Divisor200, Divisor225, Divisor240, Divisor256, Divisor288, Divisor300, Divisor320, Divisor360, Divisor384, Divisor400, Divisor450, Divisor480, Divisor512, Divisor576, Divisor600, Divisor640, Divisor720, Divisor768, Divisor800, Divisor900, Divisor960, Divisor1152, Divisor1200, Divisor1280, Divisor1440, Divisor1536, Divisor1600, Divisor1800, Divisor1920, Divisor2304, Divisor2400, Divisor2560, Divisor2880, Divisor3200, Divisor3600, Divisor3840, Divisor4608, Divisor4800, Divisor5760, Divisor6400, Divisor7200, Divisor7680, Divisor9600, Divisor11520, Divisor12800, Divisor14400, Divisor19200, Divisor23040, Divisor28800, Divisor38400, Divisor57600}

-- d is a divisor of 115,200 that the divisor's two bytes hold
pub record DividesClock (d : ℕ) : Type 0 where
  pub rate : ℕ
  pub equation : rate * d ≡ 115200
  pub least : 1 ≤ d
  pub most : d ≤ 65535

-- the number that a name stands for
abbrev pub divisor_value : Divisor → ℕ
divisor_value Divisor1 = 1
divisor_value Divisor2 = 2
divisor_value Divisor3 = 3
divisor_value Divisor4 = 4
divisor_value Divisor5 = 5
divisor_value Divisor6 = 6
divisor_value Divisor8 = 8
divisor_value Divisor9 = 9
divisor_value Divisor10 = 10
divisor_value Divisor12 = 12
divisor_value Divisor15 = 15
divisor_value Divisor16 = 16
divisor_value Divisor18 = 18
divisor_value Divisor20 = 20
divisor_value Divisor24 = 24
divisor_value Divisor25 = 25
divisor_value Divisor30 = 30
divisor_value Divisor32 = 32
divisor_value Divisor36 = 36
divisor_value Divisor40 = 40
divisor_value Divisor45 = 45
divisor_value Divisor48 = 48
divisor_value Divisor50 = 50
divisor_value Divisor60 = 60
divisor_value Divisor64 = 64
divisor_value Divisor72 = 72
divisor_value Divisor75 = 75
divisor_value Divisor80 = 80
divisor_value Divisor90 = 90
divisor_value Divisor96 = 96
divisor_value Divisor100 = 100
divisor_value Divisor120 = 120
divisor_value Divisor128 = 128
divisor_value Divisor144 = 144
divisor_value Divisor150 = 150
divisor_value Divisor160 = 160
divisor_value Divisor180 = 180
divisor_value Divisor192 = 192
divisor_value Divisor200 = 200
divisor_value Divisor225 = 225
divisor_value Divisor240 = 240
divisor_value Divisor256 = 256
divisor_value Divisor288 = 288
divisor_value Divisor300 = 300
divisor_value Divisor320 = 320
divisor_value Divisor360 = 360
divisor_value Divisor384 = 384
divisor_value Divisor400 = 400
divisor_value Divisor450 = 450
divisor_value Divisor480 = 480
divisor_value Divisor512 = 512
divisor_value Divisor576 = 576
divisor_value Divisor600 = 600
divisor_value Divisor640 = 640
divisor_value Divisor720 = 720
divisor_value Divisor768 = 768
divisor_value Divisor800 = 800
divisor_value Divisor900 = 900
divisor_value Divisor960 = 960
divisor_value Divisor1152 = 1152
divisor_value Divisor1200 = 1200
divisor_value Divisor1280 = 1280
divisor_value Divisor1440 = 1440
divisor_value Divisor1536 = 1536
divisor_value Divisor1600 = 1600
divisor_value Divisor1800 = 1800
divisor_value Divisor1920 = 1920
divisor_value Divisor2304 = 2304
divisor_value Divisor2400 = 2400
divisor_value Divisor2560 = 2560
divisor_value Divisor2880 = 2880
divisor_value Divisor3200 = 3200
divisor_value Divisor3600 = 3600
divisor_value Divisor3840 = 3840
divisor_value Divisor4608 = 4608
divisor_value Divisor4800 = 4800
divisor_value Divisor5760 = 5760
divisor_value Divisor6400 = 6400
divisor_value Divisor7200 = 7200
divisor_value Divisor7680 = 7680
divisor_value Divisor9600 = 9600
divisor_value Divisor11520 = 11520
divisor_value Divisor12800 = 12800
divisor_value Divisor14400 = 14400
divisor_value Divisor19200 = 19200
divisor_value Divisor23040 = 23040
divisor_value Divisor28800 = 28800
divisor_value Divisor38400 = 38400
divisor_value Divisor57600 = 57600

-- the list has a name for d
abbrev pub Listed : ℕ → Type 0
Listed d = (name : Divisor) × (divisor_value name ≡ d)
