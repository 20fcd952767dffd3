use Rattle.std.proofs.Common.{◌≡◌, ℕ, ◌+◌, ◌-◌, ◌≤◌, List, [], ◌++◌, length, take, drop, refl, subst, arith, rules}
use Rattle.std.proofs.lemmas.List.{take_rest}
use Rattle.backends.specs.Device.{Device}
use Rattle.driver.specs.declared.uart.Uart16550.{Uart16550}
use Rattle.driver.specs.Sends.{all, cut, refusals, Sent}
use Rattle.driver.proofs.Attempting.{no_attempts, one_more, one_refused}
use Rattle.driver.proofs.uart.Uart16550.send_all.Goals as goal
use Rattle.driver.proofs.uart.Uart16550.send_all.Goals.{then-count-eq0+in_default, else-count-eq0}

pub loop-moved-init : goal.loop-moved-init
loop-moved-init g c = ([], no_attempts, tt, refl, omega arith, omega arith, c.requires, refl)

-- what the call of this turn sent, of the rest of the buffer
turn : {S : Type 0} {d : Device S} {u v : Uart16550 S} (buffer : List ℕ) (moved : ℕ) {count : ℕ}
    → Sent d u v (take (length buffer - moved) (drop moved buffer)) count → Sent d u v (drop moved buffer) count
turn {d = d} {u = u} {v = v} buffer moved {count = count} q = subst (λ b. Sent d u v b count) (take_rest buffer moved) q

pub returns-in-Err-clause-sent : goal.returns-in-Err-clause-sent
returns-in-Err-clause-sent g c =
    let i = c.loop-moved.invariant in
    let q = turn c.args.bytes.now c.loop-moved.moved c.send_bytes-count.ensures in
    let m = one_more c.args.bytes.now c.loop-moved.moved c.send_bytes-count.result i.1 i.2 i.3 c.loop-moved-test.true q in
    let b = c.in-Err.ensures.answer in
    let o = one_refused q.tried m.one (omega (arith, q.answer, c.if-count-eq0.true)) in
    rw (c.transferred.ensures, b.0) (record {
      tried = i.0 ++ q.tried;
      made = m.made;
      sound = m.sound;
      sends = rw o.2 (cut i.0 o.0.question (omega (arith, b.1)));
      counted = omega (arith, m.fruitless c.if-count-eq0.true, c.spend.ensures.counted);
      answer = omega (arith, m.moves, c.if-count-eq0.true);
    })

pub overflow_add-moved : goal.overflow_add-moved
overflow_add-moved g c =
    let i = c.loop-moved.invariant in
    let m = one_more c.args.bytes.now c.loop-moved.moved c.send_bytes-count.result i.1 i.2 i.3 c.loop-moved-test.true
    (turn c.args.bytes.now c.loop-moved.moved c.send_bytes-count.ensures) in
    let w : c.loop-moved.moved + c.send_bytes-count.result ≤ length c.args.bytes.now = m.within in
    search rules

pub loop-moved-preserved : goal.loop-moved-preserved
loop-moved-preserved g c =
    let i = c.loop-moved.invariant in
    let q = turn c.args.bytes.now c.loop-moved.moved c.send_bytes-count.ensures in
    let m = one_more c.args.bytes.now c.loop-moved.moved c.send_bytes-count.result i.1 i.2 i.3 c.loop-moved-test.true q in
    let b : (c.if-count-eq0.budget.fruitless ≡ c.args.budget.now.fruitless + refusals (i.0 ++ q.tried)) × (c.if-count-eq0.budget.fruitless ≤ c.if-count-eq0.budget.limit) × (c.if-count-eq0.budget.limit ≡ c.args.budget.now.limit) =
    elim c.if-count-eq0.branch [
      | then-count-eq0+in_default w ↦
          let f = m.fruitless w.if-count-eq0.true in
          rw w.budget-is (omega (arith, f, w.spend.ensures.counted), omega (arith, w.spend.ensures.counted, w.in_default.ensures.answer, w.spend.ensures.limit), omega (arith, w.spend.ensures.limit))
      | else-count-eq0 w ↦
          let f = m.fruitful w.if-count-eq0.false in
          rw w.budget-is (omega (arith, f), i.6, i.7)
    ] in
    (i.0 ++ q.tried, m.made, m.sound, m.moves, m.within, b.0, b.1, b.2)

pub returns-clause-sent : goal.returns-clause-sent
returns-clause-sent g c =
    let i = c.loop-moved.invariant in
    rw c.transferred-2.ensures (record {
      tried = i.0;
      made = i.1;
      sound = i.2;
      sends = all i.0 (omega arith) (omega arith);
      counted = omega arith;
      answer = i.3;
    })
