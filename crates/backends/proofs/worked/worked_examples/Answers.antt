use Rattle.std.proofs.Common.{◌≡◌, true, false, ◌∙◌}
use Rattle.backends.proofs.Examples.{examples, fits_ok, refused_not_ok}
use Rattle.backends.proofs.worked.worked_examples.Goals as goal

pub returns : goal.returns
returns c =
    let fits : c.is_ok-fits.result ≡ true = c.is_ok-fits.ensures.value ∙ fits_ok _ _ c.new.result c.new.ensures examples.last_that_fits in
    let past : c.is_ok-past.result ≡ false = c.is_ok-past.ensures.value ∙ refused_not_ok _ _ c.new-2.result _ c.new-2.ensures examples.one_past in
    let uneven : c.is_ok-uneven.result ≡ false = c.is_ok-uneven.ensures.value ∙ refused_not_ok _ _ c.new-3.result _ c.new-3.ensures examples.three_there in
    record { examples = record { divisors = c.worked_examples.ensures; addresses = examples }; answer = cc }
