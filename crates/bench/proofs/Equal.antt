-- When two simulated chips are one.
use Rattle.std.proofs.Common.{◌≡◌}
use denote.Struct.Props.{props}
use mathlib.Core.HLevel.{is_prop→PathP}
use Rattle.bench.specs.declared.joined.Joined.{Ghosts}
use Rattle.bench.specs.declared.simulated.Simulated.{Simulated}
use Rattle.bench.specs.Simulated.{state_of}
use Rattle.bench.specs.State.{State, IsSound}

module _ {J : Type 0} (G : Ghosts J) where
  sound_prop : (p : State J) → IsProp (IsSound G.came p)
  sound_prop p = hlevel props

  -- with the same chip and what is joined to it, two are one
  pub same_simulated : (a b : Simulated J G) → state_of G a ≡ state_of G b → a ≡ b
  same_simulated a b e = λ i. record { core = (e i).core; joined = (e i).joined; ok = is_prop→PathP (λ k. IsSound G.came (e k)) (λ k. sound_prop (e k)) a.ok b.ok i }
