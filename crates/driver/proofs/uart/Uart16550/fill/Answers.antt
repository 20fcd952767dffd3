use Rattle.std.proofs.Common.{◌≡◌, [], ◌++◌, length, sym, refl, ◌∙◌, arith}
use lib.Seq.{set-get_or}
use Rattle.driver.specs.Receives.{no_room}
use Rattle.driver.proofs.Tries.{no_tries, made_append, misses_append}
use Rattle.driver.proofs.Filling.{exactly_more, exactly_cut, waited_got, waited_in_time, place_more, place_same}
use Rattle.driver.proofs.uart.Uart16550.fill.Goals as goal

pub loop-moved-init : goal.loop-moved-init
loop-moved-init g c = ([], no_tries, no_room refl, refl, refl, omega arith, c.requires, refl)

pub loop-moved-preserved : goal.loop-moved-preserved
loop-moved-preserved g c =
    let i = c.loop-moved.invariant in
    let w = c.in-Ok.ensures.waited in
    let t = misses_append i.0 w.0 in
    let l = waited_in_time _ _ _ _ w.1 in
    let p = place_more c.args.buffer.now c.loop-moved.buffer i.0 w.0 c.loop-moved.moved c.in-Ok.byte i.3 i.4 (waited_got _ _ _ _ _ w.1) (omega arith) in (
      i.0 ++ w.0,
      made_append i.1 w.2,
      exactly_more _ _ _ _ i.0 w.0 _ (omega arith) i.3 (omega arith) w.1,
      p.0,
      p.1,
      omega (arith, w.3),
      omega (arith, w.3, c.in-Ok.ensures.limit),
      omega (arith, c.in-Ok.ensures.limit),
    )

pub returns-in-Err-clause-filled : goal.returns-in-Err-clause-filled
returns-in-Err-clause-filled g c =
    let i = c.loop-moved.invariant in
    let w = c.in-Err.ensures.waited in
    let t = misses_append i.0 w.0 in
    let p = place_same c.args.buffer.now c.loop-moved.buffer i.0 w.0 c.loop-moved.moved 0 i.3 i.4 (waited_got _ _ _ _ _ w.1) in
    rw c.transferred.ensures (record {
      ts = i.0 ++ w.0;
      made = made_append i.1 w.2;
      fills = exactly_cut _ _ _ _ _ i.0 w.0 _ (omega arith) (omega arith) (omega arith) w.1;
      buffer = set-get_or c.loop-moved.buffer c.loop-moved.moved 0 ∙ p.1;
      counted = omega (arith, w.3);
      answer = sym p.0;
    })

pub returns-clause-filled : goal.returns-clause-filled
returns-clause-filled g c =
    let i = c.loop-moved.invariant in
    let e : c.loop-moved.moved ≡ length c.args.buffer.now = omega arith in
    rw c.transferred-2.ensures (record
    { ts = i.0; made = i.1; fills = rw e at i.2; buffer = i.4; counted = omega arith; answer = omega arith })
