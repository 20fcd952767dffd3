-- The transmitter's steps are the rules' steps of what it means.
use Rattle.std.specs.Prelude.{◌≡◌, ℕ, ◌-◌, Bool, List, [], ◌∷◌, ◌++◌, length, nat_lt, refl}
use Rattle.std.proofs.Common.{arith, append_assoc, append-nil, sym, ap, ◌∙◌, length-append}
use Rattle.std.proofs.lemmas.List.{length_push, take_at}
use Rattle.backends.specs.Chip.{ChipState, Transmitter as RulesTransmitter, with_transmitter}
use Rattle.backends.specs.Rules.{sent as rules_sent, struck as rules_struck}
use Rattle.bench.specs.declared.transmitter.Transmitter.{Transmitter}
use Rattle.bench.specs.Meaning.{transmitter_of}
use Rattle.bench.specs.Transmitter.{filling, sent, struck}
use Rattle.bench.specs.Keeping.Cases.{cond_along}

transmitter_path : (a b : List ℕ) (m n : ℕ) (xs : List ℕ) → a ≡ b → m ≡ n
    → ◌≡◌ {A = RulesTransmitter} (record { given = a; held = m; turning = xs }) (record { given = b; held = n; turning = xs })
transmitter_path a b m n xs p q = cc

module _ (g : List ℕ) (t : Transmitter) where
  -- a byte is taken as the rules say
  pub sent_is : (loops : Bool) (most v : ℕ) → transmitter_of g (sent loops most v t) ≡ rules_sent loops most v (transmitter_of g t)
  sent_is loops most v =
      cond_along (transmitter_of g) (nat_lt (filling t) most) _ t _ _
      (cond_along (transmitter_of g) loops _ _ _ _ refl
      (transmitter_path _ _ _ _ _ (sym (append_assoc g t.held (v ∷ []))) (length_push t.held v)))
      refl

  -- the held bytes are struck from those given
  pub struck_is : transmitter_of g struck ≡ rules_struck (transmitter_of g t)
  struck_is =
      let n : length g ≡ length (g ++ t.held) - length t.held = omega (arith, length-append g t.held) in
      transmitter_path _ _ _ _ _ (append-nil g ∙ sym (take_at g t.held (length (g ++ t.held) - length t.held) n)) refl

-- the oldest held byte leaves: it stays among those given
pub one_gone_is : (g : List ℕ) (b : ℕ) (bs turning : List ℕ)
    → transmitter_of (g ++ b ∷ []) (record { held = bs; turning = turning })
    ≡ record { given = g ++ b ∷ bs; held = length (b ∷ bs) - 1; turning = turning }
one_gone_is g b bs turning = transmitter_path _ _ _ _ _ (append_assoc g (b ∷ []) bs) (omega arith)

-- n of the held bytes leave a chip
abbrev pub lessened : ℕ → ChipState → ChipState
lessened n m = with_transmitter m (record m.transmitter { held = m.transmitter.held - n })

-- none leaves
pub none_less : (m : ChipState) → m ≡ lessened 0 m
none_less m = let e : m.transmitter.held ≡ m.transmitter.held - 0 = omega arith in ap (λ n. with_transmitter m (record m.transmitter { held = n })) e
