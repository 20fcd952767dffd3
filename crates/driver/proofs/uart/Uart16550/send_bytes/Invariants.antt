use Rattle.std.proofs.Common.{◌≡◌, take}
use Rattle.backends.specs.Device.{Runs}
use Rattle.driver.specs.Kept.{kept}
use Rattle.driver.specs.Sends.{writes_of}
use Rattle.driver.proofs.uart.Uart16550.send_bytes.Given as goal

-- the bytes so far were written
abbrev pub invariant-loop-byte : goal.invariant-loop-byte
invariant-loop-byte g l = Runs g.B.Backend.device (writes_of (take l.byte-index l.byte-items)) l.initial.self.backend l.self.backend
    × (kept l.self ≡ kept l.initial.self)
