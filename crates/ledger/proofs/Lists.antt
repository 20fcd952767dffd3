-- Lists of calls.
use Rattle.std.proofs.Common.{◌≡◌, ℕ, Bool, true, false, List, [], ◌∷◌, ◌++◌, Option, sym, refl, subst, append_assoc, append-nil}
use Rattle.registers.specs.Flags.{contains, divisor_access}
use Rattle.backends.specs.declared.character.Counts.{Counts}
use Rattle.backends.specs.Chip.{ChipState, Setup}
use Rattle.backends.specs.Device.{Device}
use Rattle.backends.specs.Rules.{KeepsRules}
use Rattle.driver.specs.declared.uart.Uart16550.{Uart16550}
use Rattle.driver.specs.Kept.{Kept, kept}
use Rattle.ledger.specs.declared.call.Answer.{Answer}
use Rattle.ledger.specs.declared.call.Call.{Call}
use Rattle.ledger.specs.declared.call.Entry.{Entry}
use Rattle.ledger.specs.Did.{Did}
use Rattle.ledger.specs.Law.{Played, ErrorsShown, AnswerShows, is_lsr}
use Rattle.ledger.specs.Reported.{handed, taken, handed_by, taken_by}
use Rattle.ledger.proofs.Steps.{At}
use Rattle.ledger.proofs.Calls.{kept_by, ShowsNow}

-- one call more
pub played_push : {S : Type 0} (d : Device S) (meaning : S → ChipState) (u v w : Uart16550 S) (es : List Entry) (ms : List ChipState) (c : Call) (e : Entry)
    → Played d meaning u es ms v → Did d v w c e.call e.answer → Played d meaning u (es ++ (e ∷ [])) (ms ++ (meaning w.backend ∷ [])) w
played_push d meaning u v w [] [] c e p q = (w, (c, subst (λ x. Did d x w c e.call e.answer) (sym p) q), refl, refl)
played_push d meaning u v w [] (m ∷ ms) c e p q = absurd p
played_push d meaning u v w (x ∷ es) [] c e p q = absurd p
played_push d meaning u v w (x ∷ es) (m ∷ ms) c e p q = (p.0, p.1, p.2, played_push d meaning p.0 v w es ms c e p.3 q)

-- what the getter of the line status has shown, and what is to be shown after it
shown_more : (b : Bool) (a : Option Answer) (base now next : Counts) (P : Counts → Type 0) → ShowsNow b a base now next → P next
    → elim b as (λ _. Type 0) [ true ↦ AnswerShows a base now × P now | false ↦ P base ]
shown_more true a base now next P s p = (s.0, subst P s.1 p)
shown_more false a base now next P s p = subst P s p

module _ {S : Type 0} (d : Device S) (meaning : S → ChipState) (law : KeepsRules d meaning) (start : ChipState) (σ : Setup)
    (open_σ : contains σ.lcr divisor_access ≡ false) where
  pub record KeptAll (es : List Entry) (ms : List ChipState) (base : Counts) (out gone : List ℕ) (t : S) (l : Kept) : Type 0 where
    pub next : Counts
    pub ledger : At d meaning law start next (out ++ handed es) (gone ++ taken es) σ t l
    pub errors : ErrorsShown base es ms

  -- the whole list keeps the ledger
  pub kept_all : (es : List Entry) (ms : List ChipState) (base : Counts) (out gone : List ℕ) (u v : Uart16550 S) → Played d meaning u es ms v
      → At d meaning law start base out gone σ u.backend (kept u) → KeptAll es ms base out gone v.backend (kept v)
  kept_all [] [] base out gone u v p a = record
      { next = base; ledger = simp append-nil (subst (λ x. At d meaning law start base out gone σ x.backend (kept x)) p a); errors = tt }
  kept_all [] (m ∷ ms) base out gone u v p a = absurd p
  kept_all (e ∷ es) [] base out gone u v p a = absurd p
  kept_all (e ∷ es) (m ∷ ms) base out gone u v p a =
      let q = kept_by d meaning law start σ open_σ base out gone u p.0 a p.1.0 e.call e.answer p.1.1 in
      let r = kept_all es ms q.next (out ++ handed_by e.call e.answer) (gone ++ taken_by e.call e.answer) p.0 v p.3 q.ledger in
      record {
        next = r.next;
        ledger = subst (λ o. At d meaning law start r.next o (gone ++ (taken_by e.call e.answer ++ taken es)) σ v.backend (kept v)) (append_assoc out (handed_by e.call e.answer) (handed es))
            (subst (λ o. At d meaning law start r.next ((out ++ handed_by e.call e.answer) ++ handed es) o σ v.backend (kept v)) (append_assoc gone (taken_by e.call e.answer) (taken es)) r.ledger);
        errors = shown_more (is_lsr e) e.answer base m.receiver.counts q.next (λ b. ErrorsShown b es ms)
            (subst (λ x. ShowsNow (is_lsr e) e.answer base x.receiver.counts q.next) p.2 q.shows) r.errors;
      }
