use Rattle.std.proofs.Common.{◌≡◌, ◌+◌, ◌-◌, ◌*◌, ◌≤◌, List, length, slice_get, Some, sum_by, sym}
use Rattle.std.proofs.Common.{ap, ◌∙◌, subst, arith}
use Rattle.step_core.proofs.Prelude.{living, most_steps, steps_of, Thread, WorldState}
use Rattle.step_core.proofs.runs.Tasks.{enough, few_steps, few_threads, within}
use Rattle.step_core.proofs.world.World.most_steps.Goals as goal

pub steps_left-requires-clause-within : goal.steps_left-requires-clause-within
steps_left-requires-clause-within c = λ d t at.
    within c.self.inside.table c.self.inside.threads.items c.self.invariant.0 d t
    (subst (λ (l : List Thread). slice_get l d ≡ Some t) c.as_slice.ensures.value at)

pub steps_left-requires-clause-few : goal.steps_left-requires-clause-few
steps_left-requires-clause-few c =
    let f = (few_steps c.self.inside.table c.self.inside.threads.items c.self.inside.made c.self.inside.ended c.self.invariant.1).0 in
    let s = ap (sum_by steps_of) c.as_slice.ensures.value in
    omega (arith, f, s)

module _ (c : goal.After-len) where
  -- what lives, and what the threads have left
  lives : living c.args.self.now ≡ c.self.inside.made - c.self.inside.ended
  lives =
      sym (ap living c.self.view_is)
      ∙ (few_steps c.self.inside.table c.self.inside.threads.items c.self.inside.made c.self.inside.ended c.self.invariant.1).1

  few : c.steps_left.result + 29 * c.len.result + 13 * (c.self.inside.made - c.self.inside.ended) ≤ 8590000000
  few =
      let f = (few_steps c.self.inside.table c.self.inside.threads.items c.self.inside.made c.self.inside.ended c.self.invariant.1).0 in
      let s = ap (sum_by steps_of) c.as_slice.ensures.value in
      let n = ap (λ (x : List Thread). length x) c.as_slice.ensures.value in
      let m = c.as_slice.ensures.len in
      let t = few_threads c.self.inside.table c.self.inside.threads.items c.self.inside.made c.self.inside.ended c.assert_invariant.ensures
      c.self.invariant.1 in let e = c.steps_left.ensures in
      let l = c.len.ensures in
      omega (arith, f, s, n, m, t, e, l)

pub overflow_add-result : goal.overflow_add-result
overflow_add-result c = let f = few c in omega (arith, f)

pub overflow_add-result-2 : goal.overflow_add-result-2
overflow_add-result-2 c = let f = few c in omega (arith, f)

pub returns-clause-enough : goal.returns-clause-enough
returns-clause-enough c =
    let e = enough c.self.inside.table c.self.inside.threads.items in
    let v = ap (λ (u : WorldState). most_steps u + 6 * length u.frame_views) c.self.view_is in
    let w = ap living c.self.view_is in
    let y = lives c in
    let t = c.steps_left.ensures in
    let l = c.len.ensures in
    let s = ap (sum_by steps_of) c.as_slice.ensures.value in
    let n = ap (λ (x : List Thread). length x) c.as_slice.ensures.value in
    let m = c.as_slice.ensures.len in
    omega (arith, e, v, w, y, t, l, s, n, m)

pub returns-clause-few : goal.returns-clause-few
returns-clause-few c = few c
