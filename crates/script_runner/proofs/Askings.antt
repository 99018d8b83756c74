-- A thread of a program has as few calls as all threads together may have.
use Rattle.std.proofs.Common.{◌≡◌, ℕ, ◌<◌, ◌≤◌, List, length, get_or, slice_get, Some, subst}
use Rattle.std.proofs.Common.{arith}
use Rattle.script_runner.proofs.Prelude.{call_count, IsProgram, Part, slice_get_within}
use Rattle.std.proofs.lemmas.List.Sums.{get_or-le-sum_by}
use Rattle.std.proofs.lemmas.Option.{get_or_from_slice_get}

module _ (ps : List Part) (i : ℕ) (p : Part) (program : IsProgram ps) (at : slice_get ps i ≡ Some p) where
  within : i < length ps
  within = slice_get_within ps i p at

  is : get_or ps i p ≡ p
  is = get_or_from_slice_get ps i p p at

  pub part_calls : length p.calls ≤ 65536
  part_calls =
      let here : length p.calls ≤ call_count ps =
      subst (λ (x : Part). length x.calls ≤ call_count ps) is (get_or-le-sum_by (λ (x : Part). length x.calls) ps i p within) in
      let all = program.calls in omega (arith, here, all)
