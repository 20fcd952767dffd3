-- The whole law, from an accepted init and the calls after it.
use Rattle.std.proofs.Common.{ℕ, List, [], None}
use Rattle.registers.specs.declared.config.Config.{Config}
use Rattle.backends.specs.Chip.{ChipState}
use Rattle.backends.specs.Device.{Device}
use Rattle.backends.specs.Rules.{KeepsRules}
use Rattle.driver.specs.declared.uart.Uart16550.{Uart16550}
use Rattle.driver.specs.Kept.{kept}
use Rattle.driver.specs.Traces.{Ran, Initialised}
use Rattle.ledger.specs.declared.call.Entry.{Entry}
use Rattle.ledger.specs.Law.{Law, Played}
use Rattle.ledger.proofs.Lists.{kept_all}
use Rattle.ledger.proofs.Starting.{begun}

pub whole : {S : Type 0} (d : Device S) (meaning : S → ChipState) (law : KeepsRules d meaning) (c : Config) (n f : ℕ) (u v w : Uart16550 S) (es : List Entry) (ms : List ChipState)
    → Ran d (Initialised c n (kept u) None f (kept v)) u.backend v.backend → Played d meaning v es ms w → Law d meaning c n f u w es
whole d meaning law c n f u v w es ms i p =
    let b = begun d meaning law c n (kept u) f (kept v) i.0 u.backend v.backend i.1 i.2 in
    let a = kept_all d meaning law (meaning b.start.at) b.σ b.closed es ms (meaning b.start.at).receiver.counts [] [] v w p b.ledger in
    record {
      ready = v;
      accesses = i.0;
      init = i.1;
      ran = i.2;
      start = b.start;
      set_up = b.set_up;
      states = ms;
      played = p;
      account = a.ledger.account;
      given = a.ledger.given;
      errors = a.errors;
    }
