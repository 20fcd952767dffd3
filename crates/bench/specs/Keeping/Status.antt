-- The line status shows what the rules say.
use Rattle.std.specs.Prelude.{◌≡◌, ℕ, Bool, true, false, cond, not, ◌&&◌, List, [], ◌∷◌, length, ◌==◌, nat_lt, refl}
use Rattle.std.proofs.Common.{arith, sym, ◌∙◌}
use Rattle.std.proofs.lemmas.Bool.{and_parts, lt-ltb}
use Rattle.registers.specs.Flags.{contains}
use Rattle.backends.specs.declared.character.Character.{Character}
use Rattle.backends.specs.Rules.{Status, some_wait}
use Rattle.bench.specs.declared.chip_core.Core.{Core}
use Rattle.bench.specs.Core.{status, status_byte, data_error}
use Rattle.bench.specs.Meaning.{chip_of}
use Rattle.bench.specs.Settings.{mode}
use Rattle.bench.specs.Transmitter.{filling}

same : Bool → Bool → Bool
same x y = cond x y (not y)

same_true : (x y : Bool) → same x y ≡ true → x ≡ y
unfolding same
same_true true true e = refl
same_true true false e = sym e
same_true false true e = e
same_true false false e = refl

-- at both
both : (Bool → Bool) → Bool
both f = f true && f false

-- what holds at both holds at each
each : (f : Bool → Bool) → both f ≡ true → (b : Bool) → f b ≡ true
unfolding both
each f h true = (and_parts (f true) (f false) h).0
each f h false = (and_parts (f true) (f false) h).1

-- the bits of a line status of these tests
abbrev right : Bool → Bool → Bool → Bool → Bool → Bool → Bool → Bool
right a b c d e i z =
    let v : ℕ = status_byte a b c d e i z in
    same (contains v 0x01) a && (same (contains v 0x02) b && (same (contains v 0x04) c && (same (contains v 0x08) d
    && (same (contains v 0x10) e && (same (contains v 0x20) i && same (contains v 0x40) i)))))

-- each shows its test, by computing at all of them
rights : (a b c d e i z : Bool) → right a b c d e i z ≡ true
unfolding contains same both
rights a b c d e i z =
    let ha = each (λ a. both (λ b. both (λ c. both (λ d. both (λ e. both (λ i. both (λ z. right a b c d e i z))))))) refl a in
    let hb = each (λ b. both (λ c. both (λ d. both (λ e. both (λ i. both (λ z. right a b c d e i z)))))) ha b in
    let hc = each (λ c. both (λ d. both (λ e. both (λ i. both (λ z. right a b c d e i z))))) hb c in
    let hd = each (λ d. both (λ e. both (λ i. both (λ z. right a b c d e i z)))) hc d in
    let he = each (λ e. both (λ i. both (λ z. right a b c d e i z))) hd e in
    let hi = each (λ i. both (λ z. right a b c d e i z)) he i in
    each (λ z. right a b c d e i z) hi z

-- a queue that is not empty has a first
some_wait_is : (cs : List Character) → nat_lt 0 (length cs) ≡ some_wait cs
some_wait_is [] = refl
some_wait_is (c ∷ cs) = lt-ltb 0 (length (c ∷ cs)) (omega arith)

pub status_is : (came : List Character) (gone : List ℕ) (s : Core) → Status (chip_of came gone s) (status s)
status_is came gone s =
    let r = s.receiver in
    let v = status s in
    let i = filling s.transmitter == 0 in
    let h0 = and_parts _ _ (rights (nat_lt 0 (length r.queue)) (nat_lt r.seen.lost r.counts.lost) (nat_lt r.seen.parity r.counts.parity)
    (nat_lt r.seen.framing r.counts.framing) (nat_lt r.seen.broken r.counts.broken) i (data_error (mode s.settings.fifos) r.queue)) in
    let h1 = and_parts _ _ h0.1 in
    let h2 = and_parts _ _ h1.1 in
    let h3 = and_parts _ _ h2.1 in
    let h4 = and_parts _ _ h3.1 in
    let h5 = and_parts _ _ h4.1 in
    record {
      ready = same_true _ _ h0.0 ∙ some_wait_is r.queue;
      overrun = same_true _ _ h1.0;
      parity = same_true _ _ h2.0;
      framing = same_true _ _ h3.0;
      broken = same_true _ _ h4.0;
      room = same_true _ _ h5.0;
      empty = λ e. sym (same_true _ _ h5.1) ∙ e;
    }
