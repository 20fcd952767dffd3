use Rattle.std.proofs.Common.{refl}
use Rattle.ledger.specs.Law.{refused, played}
use Rattle.ledger.proofs.Whole.{whole}
use Rattle.ledger.proofs.list.play.Goals as goal

pub returns-in-Ok : goal.returns-in-Ok
returns-in-Ok g c =
    let p = c.play_all.ensures.played in
    rw c.in-Ok.is (played c.init-answer.result.fruitless c.play_all.ensures.same
    (whole g.C.Backend.device g.C.Chip.meaning g.met.C.Chip.keeps c.args.config c.args.budget c.init-answer.result.fruitless _ _ _ _ p.0
    (rw c.in-Ok.is at c.init-answer.ensures) p.1))

pub returns-in_default : goal.returns-in_default
returns-in_default g c =
    rw c.in_default.is (refused _ c.init-answer.result.fruitless (rw c.in_default.is at c.init-answer.ensures) refl)
