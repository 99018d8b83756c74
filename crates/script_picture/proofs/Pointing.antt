-- Objects whose counts are told are there, or are kept by weak pointers.
use Rattle.std.proofs.Common.{◌≡◌, ℕ, ◌<◌, ◌==◌, Bool, true, false, cond, inl, inr, refl, arith, eq-eqb}
use Rattle.std.specs.Prelude.{Option, Some, None}
use Rattle.std.proofs.lemmas.Bool.{cases_eq}
use Rattle.control_word.specs.declared.packed.counts.Counts.{Counts}
use Rattle.control_word.specs.State.{State, count, weak, weak_number}
use Rattle.step_core.specs.Totals.{census_of}

pub census_some : (s : State) (b : ℕ) (x : Counts) → census_of s b ≡ Some x
    → 0 < weak_number s (s.latest b)
census_some s b x e = go (weak_number s (s.latest b) == 0) refl e
  where
    go : (t : Bool) → (weak_number s (s.latest b) == 0) ≡ t
        → cond t None (Some (record { owners = count s (s.latest b); weaks = weak s (s.latest b) })) ≡ Some x
        → 0 < weak_number s (s.latest b)
    go true is e = absurd cc
    go false is e = elim (cases_eq (weak_number s (s.latest b)) 0) [
      | inl none ↦ absurd (let t = eq-eqb (weak_number s (s.latest b)) 0 none in cc)
      | inr some ↦ omega (arith, some)
    ]
