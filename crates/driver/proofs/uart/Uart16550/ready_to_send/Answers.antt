use Rattle.std.proofs.Common.{[], ◌∷◌, sym, ap, ◌∙◌}
use Rattle.backends.specs.Device.{rd}
use Rattle.driver.specs.Sends.{status, control, no_room, unchecked, looped, clear, not_clear}
use Rattle.driver.proofs.Runs.{runs_append, runs_read}
use Rattle.driver.proofs.Sending.{asked_lines}
use Rattle.driver.proofs.uart.Uart16550.ready_to_send.Goals as goal

pub returns-then-not-contains : goal.returns-then-not-contains
returns-then-not-contains g c = record {
  question = status c.read_lsr.result;
  answer = no_room c.read_lsr.result (sym c.contains.ensures ∙ c.if-not-contains.true);
  ran = c.read_lsr.ensures.accesses;
  keeps = c.read_lsr.ensures.keeps;
}

pub returns-then-not-self : goal.returns-then-not-self
returns-then-not-self g c = record {
  question = status c.read_lsr.result;
  answer = unchecked c.read_lsr.result (sym (ap (λ k. k.config.check_cts_before_sending) c.read_lsr.ensures.keeps) ∙ c.if-not-self.true) (sym c.contains.ensures ∙ c.if-not-contains.false);
  ran = c.read_lsr.ensures.accesses;
  keeps = c.read_lsr.ensures.keeps;
}

pub returns-then-contains : goal.returns-then-contains
returns-then-contains g c =
    let v = c.read_lsr.result in
    let m = c.read.result in
    let d = g.B.Backend.device in
    record {
      question = control v m;
      answer = looped v m (sym (ap (λ k. k.config.check_cts_before_sending) c.read_lsr.ensures.keeps) ∙ c.if-not-self.false) (sym c.contains.ensures ∙ c.if-not-contains.false) (sym c.contains-2.ensures ∙ c.if-contains.true);
      ran = runs_append d (rd 5 v ∷ []) (rd 4 m ∷ []) _ _ _ c.read_lsr.ensures.accesses (runs_read d 4 m _ _ c.read.ensures.value c.read.ensures.state);
      keeps = c.read_lsr.ensures.keeps;
    }

pub returns-then-not-contains-2 : goal.returns-then-not-contains-2
returns-then-not-contains-2 g c =
    asked_lines _ c.read_lsr.result c.read.result c.read_msr.result c.read_lsr.ensures.accesses
    (runs_read g.B.Backend.device 4 c.read.result _ _ c.read.ensures.value c.read.ensures.state) c.read_msr.ensures.accesses c.read_lsr.ensures.keeps c.read_msr.ensures.keeps
    (not_clear _ _ _ (sym (ap (λ k. k.config.check_cts_before_sending) c.read_lsr.ensures.keeps) ∙ c.if-not-self.false) (sym c.contains.ensures ∙ c.if-not-contains.false)
    (sym c.contains-2.ensures ∙ c.if-contains.false) (sym c.contains-3.ensures ∙ c.if-not-contains-2.true))

pub returns : goal.returns
returns g c =
    asked_lines _ c.read_lsr.result c.read.result c.read_msr.result c.read_lsr.ensures.accesses
    (runs_read g.B.Backend.device 4 c.read.result _ _ c.read.ensures.value c.read.ensures.state) c.read_msr.ensures.accesses c.read_lsr.ensures.keeps c.read_msr.ensures.keeps
    (clear _ _ _ (sym (ap (λ k. k.config.check_cts_before_sending) c.read_lsr.ensures.keeps) ∙ c.if-not-self.false) (sym c.contains.ensures ∙ c.if-not-contains.false)
    (sym c.contains-2.ensures ∙ c.if-contains.false) (sym c.contains-3.ensures ∙ c.if-not-contains-2.false))
