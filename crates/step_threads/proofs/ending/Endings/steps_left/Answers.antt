use Rattle.std.proofs.Common.{◌≡◌, List, reverse, sum_by, sym, refl, ap, ◌∙◌, arith}
use Rattle.step_threads.proofs.Prelude.{Ending, ending_steps, IsPermutation-reverse, Stack}
use Rattle.std.proofs.lemmas.List.Sorted.{sum_by-IsPermutation}
use Rattle.step_threads.proofs.ending.Endings.steps_left.Goals as goal

-- the same endings, the other way round
reversed_steps : (es : List Ending) → sum_by ending_steps (reverse es) ≡ sum_by ending_steps es
reversed_steps es = sum_by-IsPermutation ending_steps es (reverse es) (IsPermutation-reverse es)

-- the sum of the items is that of the list
same : (read items : List Ending) (s t : Stack) → read ≡ items → s.list ≡ reverse items → s ≡ t
    → sum_by ending_steps read ≡ sum_by ending_steps t.list
same read items s t is shown view =
    ap (λ (l : List Ending). sum_by ending_steps l) is
    ∙ sym (reversed_steps items)
    ∙ ap (λ (l : List Ending). sum_by ending_steps l) (sym shown)
    ∙ ap (λ (x : Stack). sum_by ending_steps x.list) view

pub ending_steps-requires : goal.ending_steps-requires
ending_steps-requires c =
    let s = same c.as_slice.result.now c.self.inside.items.items _ c.args.self.now c.as_slice.ensures.value refl c.self.view_is in
    let r = c.requires in
    omega (arith, s, r)

pub returns : goal.returns
returns c =
    c.ending_steps.ensures
    ∙ same c.as_slice.result.now c.self.inside.items.items _ c.args.self.now c.as_slice.ensures.value refl c.self.view_is
