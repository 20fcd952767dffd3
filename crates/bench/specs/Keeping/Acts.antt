-- What each register does is what the rules say.
use Rattle.std.specs.Prelude.{◌≡◌, ℕ, Bool, cond, not, ◌&&◌, List, refl}
use Rattle.std.proofs.Common.{sym, ap, ◌∙◌, subst}
use Rattle.registers.specs.Flags.{contains, fifo_enable, rx_fifo_reset, tx_fifo_reset, loop_back}
use Rattle.backends.specs.declared.character.Character.{Character}
use Rattle.backends.specs.Chip.{ChipState, Receiver as RulesReceiver, Transmitter as RulesTransmitter, Setup, is_on, capacity, with_receiver, with_transmitter}
use Rattle.backends.specs.Rules.{Reads, Writes, Takes, Status, ShowsFifos, noticed, unlooped as rules_unlooped, controlled as rules_controlled, switched as rules_switched, reset as rules_reset}
use Rattle.bench.specs.declared.chip_core.Core.{Core}
use Rattle.bench.specs.declared.settings.Fifos.{Fifos}
use Rattle.bench.specs.declared.settings.Fifos.TheVariants.{Absent, Off, On}
use Rattle.bench.specs.Core.{answer, answered, controlled, switched, reset, written, with_settings, with_transmitter as chip_with}
use Rattle.bench.specs.Meaning.{chip_of, receiver_of, transmitter_of}
use Rattle.bench.specs.Receiver.{emptied}
use Rattle.bench.specs.Settings.{mode, loops, with_dll, with_dlm, with_ier}
use Rattle.bench.specs.Transmitter.{struck, unlooped, sent}
use Rattle.bench.specs.Keeping.Cases.{cond_along}
use Rattle.bench.specs.Keeping.Reaches.{takes_is}
use Rattle.bench.specs.Keeping.Sends.{sent_is, struck_is}
use Rattle.bench.specs.Keeping.Status.{status_is}

shows_is : (f : Fifos) → ShowsFifos (is_on (mode f)) (cond (is_on (mode f)) 0xC1 0x01)
unfolding contains
shows_is Absent = refl
shows_is Off = refl
shows_is On = refl

module _ (came : List Character) (gone : List ℕ) (s : Core) where
  abbrev m : ChipState
  m = chip_of came gone s

  pub reads_act : (k : ℕ) → Reads m k (answer s k) (chip_of came gone (answered s k))
  reads_act k =
      let at : (P : ℕ → ChipState → Type 0) (j : ℕ) → k ≡ j → P (answer s j) (chip_of came gone (answered s j)) → P (answer s k) (chip_of came gone (answered s k)) =
      λ P j z h. subst (λ j. P (answer s j) (chip_of came gone (answered s j))) (sym z) h in
      let gives : ℕ → ℕ → ChipState → Type 0 = λ r v n. (v ≡ r) × (n ≡ m) in
      let stays : ℕ → ChipState → Type 0 = λ v n. n ≡ m in
      record {
        taken = λ z d. at (λ v n. Takes s.receiver.queue m v n) _ z (simp d (takes_is s.receiver.queue s.receiver.counts s.receiver.seen came m.transmitter m.setup));
        divisor_low = λ z d. at (gives s.settings.dll) _ z (simp d (refl, refl));
        interrupts = λ z d. at stays _ z refl;
        divisor_high = λ z d. at (gives s.settings.dlm) _ z (simp d (refl, refl));
        interrupt_status = λ z. at (λ v n. ShowsFifos (is_on (mode s.settings.fifos)) v × (n ≡ m)) _ z (shows_is s.settings.fifos, refl);
        line_control = λ z. at (gives s.settings.lcr) _ z (refl, refl);
        modem_control = λ z. at (gives s.settings.mcr) _ z (refl, refl);
        line_status = λ z. at (λ v n. Status m v × (n ≡ with_receiver m (noticed m.receiver))) _ z (status_is came gone s, refl);
        modem_status = λ z. at stays _ z refl;
        scratch = λ z. at stays _ z refl;
      }

-- parts that mean the same make chips that mean the same
pub chip_path : (r q : RulesReceiver) (t u : RulesTransmitter) (g : Setup) → r ≡ q → t ≡ u
    → ◌≡◌ {A = ChipState} (record { receiver = r; transmitter = t; setup = g }) (record { receiver = q; transmitter = u; setup = g })
chip_path r q t u g p e = cc

module _ (came : List Character) (gone : List ℕ) (s : Core) where
  switched_is : (f : Fifos) → chip_of came gone (switched f s) ≡ rules_switched (mode f) (chip_of came gone s)
  switched_is f = chip_path _ _ _ _ _ refl (struck_is gone s.transmitter)

  reset_is : (v : ℕ) → chip_of came gone (reset v s) ≡ rules_reset v (chip_of came gone s)
  reset_is v =
      chip_path _ _ _ _ _
      (cond_along (receiver_of came) (contains v rx_fifo_reset) (emptied s.receiver) s.receiver _ _ refl refl)
      (cond_along (transmitter_of gone) (contains v tx_fifo_reset) struck s.transmitter _ _ (struck_is gone s.transmitter) refl)

  controlled_is : (f : Fifos) (v : ℕ) → chip_of came gone (controlled f v s) ≡ rules_controlled (mode f) v (chip_of came gone s)
  controlled_is Absent v = refl
  controlled_is Off v = cond_along (chip_of came gone) (contains v fifo_enable) (switched On s) s _ _ (switched_is On) refl
  controlled_is On v = cond_along (chip_of came gone) (contains v fifo_enable) (reset v s) (switched Off s) _ _ (reset_is v) (switched_is Off)

  unlooped_is : (b : Bool) → transmitter_of gone (cond b (unlooped s.transmitter) s.transmitter)
      ≡ cond b (rules_unlooped (transmitter_of gone s.transmitter)) (transmitter_of gone s.transmitter)
  unlooped_is b = cond_along (transmitter_of gone) b (unlooped s.transmitter) s.transmitter _ _ refl refl

  pub writes_act : (k v : ℕ) → Writes (chip_of came gone s) k v (chip_of came gone (written s k v))
  writes_act k v =
      let f = mode s.settings.fifos in
      let g = s.settings in
      let at : (j : ℕ) → k ≡ j → chip_of came gone (written s k v) ≡ chip_of came gone (written s j v) = λ j z. ap (λ j. chip_of came gone (written s j v)) z in
      let sends = λ (b : Bool). chip_of came gone (cond b (with_settings s (with_dll g v)) (chip_with s (sent (loops g) (capacity f) v s.transmitter))) in
      let interrupts = λ (b : Bool). chip_of came gone (with_settings s (cond b (with_dlm g v) (with_ier g v))) in
      record {
        given = λ z d. at _ z ∙ ap sends d ∙ ap (λ t. with_transmitter (chip_of came gone s) t) (sent_is gone s.transmitter (loops g) (capacity f) v);
        divisor_low = λ z d. at _ z ∙ ap sends d;
        interrupts = λ z d. at _ z ∙ ap interrupts d;
        divisor_high = λ z d. at _ z ∙ ap interrupts d;
        fifo_control = λ z. at _ z ∙ controlled_is g.fifos v;
        line_control = λ z. at _ z;
        modem_control = λ z. at _ z ∙ chip_path _ _ _ _ _ refl (unlooped_is (loops g && not (contains v loop_back)));
        line_status = λ z. at _ z;
        modem_status = λ z. at _ z;
        scratch = λ z. at _ z;
      }
