use Rattle.std.proofs.Common.{◌≡◌, [], ◌∷◌, refl, subst, arith}
use Rattle.driver.specs.Sends.{Sent}
use Rattle.driver.proofs.Attempting.{taken_within}
use Rattle.driver.proofs.uart.Uart16550.try_send_byte.Goals as goal

-- one byte was offered, so one was taken
pub returns-in_default : goal.returns-in_default
returns-in_default g c =
    let p = c.send_bytes.ensures in
    let h = taken_within _ _ p.tried p.sound in
    let e : c.send_bytes.result ≡ 1 = omega (arith, h, p.answer) in
    record {
      sent = subst (λ n. Sent g.B.Backend.device c.args.self.now c.send_bytes.new.self (c.args.byte ∷ []) n) e p;
      answer = refl;
    }
