-- A desk that has the whole allowance is the only one that acts, so what comes after all that it has seen is its own.
use Rattle.std.proofs.Common.{◌≡◌, ℕ, ◌<◌, ◌≢◌, List, [], ◌∷◌, ◌++◌, refl, ap, subst, ⊎_elim}
use Rattle.std.proofs.Common.{arith}
use Rattle.control_word.proofs.Prelude.{cases_eq, cases_lt, Entry, IsActing, IsLegal, leads}
use Rattle.control_word.proofs.Prelude.{Opening}
use Rattle.control_word.proofs.history.Allowances.{allowed}
use Rattle.control_word.proofs.lists.Sums.{sum_at, sum_two}
use Rattle.control_word.specs.Laws.{NothingUnseen}

module _ {V : Type 0} where
  pub alone : (z : Opening) (h : List (Entry V)) → IsLegal z h → (d e : ℕ) → (leads z h).allowance d ≡ z.allowance
      → IsActing (leads z h) e → e ≡ d
  alone z h legal d e whole acts =
      let s = leads z h in
      let t = allowed z h legal in
      let sum = t.shares in
      let some' = acts.2 in
      ⊎_elim (λ (same : e ≡ d). same)
      (λ (ne : e ≢ d). ⊎_elim
      (λ (lt : d < s.names). let both = sum_two s.names e d s.allowance acts.0 lt ne in absurd (omega arith))
      (λ le. let none = t.beyond d le in let one = sum_at s.names e s.allowance acts.0 in absurd (omega arith))
      (cases_lt d s.names))
      (cases_eq e d)

  pub nothing_unseen : NothingUnseen V
  nothing_unseen z [] seen legal d none whole = refl
  nothing_unseen z (x ∷ later) seen legal d none whole =
      let before : (later ++ seen) ≡ seen = ap (λ l. l ++ seen) (nothing_unseen z later seen legal.0 d none.2 whole) in
      let acts = subst (λ l. IsActing (leads z l) x.desk) before legal.1.acting in
      absurd (none.0 (alone z seen (subst (IsLegal z) before legal.0) d x.desk whole acts))
