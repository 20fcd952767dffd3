-- Attempts to send, put together.
use Rattle.std.proofs.Common.{◌≡◌, ℕ, ◌-◌, ◌<◌, ◌≤◌, min, List, [], ◌∷◌, length, take, Some, None, Option, sym, refl, ap, ◌∙◌, subst, append-nil, arith, length-take}
use Rattle.std.proofs.lemmas.List.{take_all, take_min}
use Rattle.registers.specs.Refusal.{Refusal}
use Rattle.backends.specs.Device.{Device, Runs, rd}
use Rattle.driver.specs.declared.uart.Uart16550.{Uart16550}
use Rattle.driver.specs.Kept.{kept}
use Rattle.driver.specs.Traces.{noting}
use Rattle.driver.specs.Sends.{lines, asks, Answers, writes_of, AskedToSend, Sent, burst, refused, wrote}
use Rattle.driver.proofs.Runs.{runs_append}
use Rattle.driver.proofs.Tries.{noting_append}

-- a question of three reads
pub asked_lines : {S : Type 0} {d : Device S} {u v w : Uart16550 S} (t : S) (status m z : ℕ) {x : Option Refusal}
    → Runs d (rd 5 status ∷ []) u.backend v.backend → Runs d (rd 4 m ∷ []) v.backend t → Runs d (rd 6 z ∷ []) t w.backend
    → kept v ≡ noting (kept u) (status ∷ []) [] → kept w ≡ noting (kept v) [] (z ∷ []) → Answers u.config.check_cts_before_sending (lines status m z) x → AskedToSend d u w x
asked_lines {d = d} {u = u} {v = v} {w = w} t status m z p q r e f a = record {
  question = lines status m z;
  answer = a;
  ran = runs_append d (rd 5 status ∷ rd 4 m ∷ []) (rd 6 z ∷ []) u.backend t w.backend (runs_append d (rd 5 status ∷ []) (rd 4 m ∷ []) u.backend v.backend t p q) r;
  keeps = f ∙ ap (λ k. noting k [] (z ∷ [])) e ∙ noting_append (kept u) (status ∷ []) [] [] (z ∷ []);
}

module _ {S : Type 0} {d : Device S} {u w : Uart16550 S} {buffer : List ℕ} where
  -- nothing to send: no access
  pub sent_nothing : length buffer ≡ 0 → u.backend ≡ w.backend → kept w ≡ kept u → Sent d u w buffer 0
  sent_nothing e p q = record { tried = []; made = record { ran = p; keeps = q }; sound = tt; one = omega arith; answer = refl }

  -- one attempt that was refused
  pub sent_refused : {x : Refusal} → 0 < length buffer → AskedToSend d u w (Some x) → Sent d u w buffer 0
  sent_refused {x = x} h a = record {
    tried = record { question = a.question; bytes = [] } ∷ [];
    made = record { ran = simp append-nil a.ran; keeps = simp append-nil a.keeps };
    sound = (h, refused a.question x a.answer, tt);
    one = omega arith;
    answer = refl;
  }

  -- one attempt that took bytes
  pub sent_some : {v : Uart16550 S} (count i room : ℕ) → 0 < length buffer → AskedToSend d u v None → kept w ≡ kept v
      → room ≡ burst (kept v) → count ≡ min room (length buffer) → length (take (count - 0) buffer) ≤ i
      → Runs d (writes_of (take i (take (count - 0) buffer))) v.backend w.backend → Sent d u w buffer count
  sent_some {v = v} count i room h a e r c j x =
      let b : room ≡ burst (kept u) = r ∙ ap burst a.keeps in
      let q : count ≡ min (burst (kept u)) (length buffer) = omega arith in
      let z : count - 0 ≡ min (burst (kept u)) (length buffer) = omega arith in
      let y : take i (take (count - 0) buffer) ≡ take (burst (kept u)) buffer = take_all i (take (count - 0) buffer) j ∙ ap (λ n. take n buffer) z ∙ take_min (burst (kept u)) buffer in
      record {
        tried = record { question = a.question; bytes = take (burst (kept u)) buffer } ∷ [];
        made = record {
          ran = simp append-nil (runs_append d (asks a.question) (writes_of (take (burst (kept u)) buffer)) u.backend v.backend w.backend a.ran
              (subst (λ bs. Runs d (writes_of bs) v.backend w.backend) y x));
          keeps = e ∙ simp append-nil a.keeps;
        };
        sound = (h, wrote a.question a.answer, tt);
        one = omega arith;
        answer = q ∙ simp append-nil (sym (length-take (burst (kept u)) buffer));
      }
