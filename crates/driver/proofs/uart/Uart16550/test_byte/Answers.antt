use Rattle.std.proofs.Common.{refl}
use Rattle.std.proofs.lemmas.Result.{err_from_is_err_and}
use Rattle.driver.proofs.Looping.{byte_refused, byte_late, byte_other, byte_same, waited_within}
use Rattle.driver.proofs.uart.Uart16550.test_byte.Goals as goal

pub returns-in_err-try_send_byte : goal.returns-in_err-try_send_byte
returns-in_err-try_send_byte g c =
    let e = err_from_is_err_and c.from_residual.result c.from_residual.ensures.1 in
    let q = c.in_err-try_send_byte.ensures in
    rw (e.1, e.2) (record { limit = refl; room = tt; tested = byte_refused q.answer q.sent })

pub returns-in_err-byte : goal.returns-in_err-byte
returns-in_err-byte g c =
    let e = err_from_is_err_and c.from_residual-in_err-byte.result c.from_residual-in_err-byte.ensures.1 in
    let q = c.in_ok-try_send_byte.ensures in
    let r = c.in_err-byte.ensures in
    rw (e.1, e.2) (record {
      limit = r.limit;
      room = tt;
      tested = byte_late q.sent r.waited.2 r.waited.3 r.waited.1;
    })

pub returns-then-byte-mask : goal.returns-then-byte-mask
returns-then-byte-mask g c =
    let q = c.in_ok-try_send_byte.ensures in
    let r = c.in_ok-byte.ensures in
    record {
      limit = r.limit;
      room = tt;
      tested = byte_other q.sent r.waited.2 r.waited.3 c.in_ok-byte.byte c.mask_of-mask.result c.mask_of-mask.ensures
          r.waited.1 c.if-byte-mask.true;
    }

pub returns : goal.returns
returns g c =
    let q = c.in_ok-try_send_byte.ensures in
    let r = c.in_ok-byte.ensures in
    record {
      limit = r.limit;
      room = waited_within _ _ _ _ _ r.waited.0 _ r.waited.1 r.waited.3 c.requires refl;
      tested = byte_same q.sent r.waited.2 r.waited.3 c.in_ok-byte.byte c.mask_of-mask.result c.mask_of-mask.ensures
          r.waited.1 c.if-byte-mask.false;
    }
