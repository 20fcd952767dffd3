use Rattle.std.proofs.Common.{◌≡◌, Bool, true, false, cond, [], ◌∷◌, Some, None, refl}
use Rattle.std.proofs.lemmas.Result.{err_from_is_err_and}
use Rattle.registers.specs.Refusal.{Refusal}
use Rattle.backends.specs.Device.{rd}
use Rattle.driver.proofs.Runs.{runs_append, runs_read}
use Rattle.driver.proofs.uart.Uart16550.try_receive_byte.Goals as goal

shown : (b : Bool) (x : Refusal) → None ≡ cond b None (Some x) → b ≡ true
shown true x e = refl
shown false x e = let z : ◌≡◌ {A = Bool} false true = cc in z

hidden : (b : Bool) (x : Refusal) → Some x ≡ cond b None (Some x) → b ≡ false
hidden false x e = refl
hidden true x e = let z : ◌≡◌ {A = Bool} true false = cc in z

pub returns : goal.returns
returns g c =
    let d = g.B.Backend.device in
    let p = c.in_ok-ready_to_receive.ensures in
    record {
      status = p.status;
      made = record {
        sound = (shown _ _ p.answer, tt);
        ran = runs_append d (rd 5 p.status ∷ []) (rd 0 c.read.result ∷ []) _ _ _ p.ran (runs_read d 0 c.read.result _ _ c.read.ensures.value c.read.ensures.state);
        keeps = p.keeps;
      };
    }

pub returns-in_err-ready_to_receive : goal.returns-in_err-ready_to_receive
returns-in_err-ready_to_receive g c =
    let e = err_from_is_err_and c.from_residual.result c.from_residual.ensures.1 in
    let p = c.in_err-ready_to_receive.ensures in
    rw e.1 (record { status = p.status; made = record { sound = (hidden _ _ p.answer, tt); ran = p.ran; keeps = p.keeps } })
