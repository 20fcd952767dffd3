use Rattle.std.proofs.Common.{refl, arith}
use Rattle.std.proofs.lemmas.Result.{err_from_is_err_and}
use Rattle.driver.specs.Loopback.{cut_off, test_message}
use Rattle.driver.proofs.Looping.{done_as, masked_from_each, each_from_masked}
use Rattle.driver.proofs.LoopTest.{other_came, same_came}
use Rattle.driver.proofs.uart.Uart16550.test_message.Goals as goal

pub returns-in_err-echo_message : goal.returns-in_err-echo_message
returns-in_err-echo_message g c =
    let e = err_from_is_err_and c.from_residual.result c.from_residual.ensures.1 in
    rw (e.1, e.2) (done_as c.in_err-echo_message.ensures (λ ps p. cut_off _ ps p.0))

pub returns-then-not-same_bits : goal.returns-then-not-same_bits
returns-then-not-same_bits g c =
    other_came c.mask_of-bits.result c.in_ok-echo_message.ensures c.mask_of-bits.ensures
    (λ e. let z = c.if-not-same_bits.ensures.1 (each_from_masked _ c.echo_message.new.back test_message (omega arith) e) in cc)

pub returns : goal.returns
returns g c =
    same_came c.mask_of-bits.result c.in_ok-echo_message.ensures c.mask_of-bits.ensures
    (masked_from_each _ c.echo_message.new.back test_message (omega arith) (c.if-not-same_bits.ensures.0 refl))
