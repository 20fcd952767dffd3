use Rattle.std.proofs.Common.{◌≡◌, ℕ, Bool, true, false, eqb, [], ◌∷◌, sym}
use Rattle.std.proofs.lemmas.Bool.{eqb-true, eqb-false}
use Rattle.backends.specs.Device.{rd, wr}
use Rattle.driver.specs.Traces.{Patterns, both_back, first_lost, second_lost}
use Rattle.driver.proofs.Runs.{runs_append}
use Rattle.driver.proofs.uart.Uart16550.keeps_patterns.Goals as goal

-- the first pattern came back: the second decides
second : (r : Bool) (a b : ℕ) → true ≡ eqb a 0x42 → r ≡ eqb b 0x73 → Patterns r (wr 7 0x42 ∷ rd 7 a ∷ wr 7 0x73 ∷ rd 7 b ∷ [])
second true a b e f = rw (eqb-true a 0x42 (sym e), eqb-true b 0x73 (sym f)) both_back
second false a b e f = rw (eqb-true a 0x42 (sym e)) (second_lost b (eqb-false b 0x73 (sym f)))

pub returns-then-keeps-clause-accesses : goal.returns-then-keeps-clause-accesses
returns-then-keeps-clause-accesses g c =
    let p = c.if-keeps.ensures.accesses in
    let q = c.keeps-then-keeps.ensures.accesses in (
      _,
      second c.keeps-then-keeps.result p.0 q.0 p.1 q.1,
      runs_append g.B.Backend.device (wr 7 0x42 ∷ rd 7 p.0 ∷ []) (wr 7 0x73 ∷ rd 7 q.0 ∷ []) _ _ _ p.2 q.2,
    )

pub returns-else-keeps-clause-accesses : goal.returns-else-keeps-clause-accesses
returns-else-keeps-clause-accesses g c =
    let p = c.if-keeps.ensures.accesses in
    rw c.if-keeps.false (_, first_lost p.0 (eqb-false _ _ (sym p.1)), p.2)
