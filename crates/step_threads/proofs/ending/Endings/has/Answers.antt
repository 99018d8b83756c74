use Rattle.std.proofs.Common.{◌≡◌, ℕ, Bool, List, reverse, ◌==◌, sym, refl, ap, ◌∙◌}
use Rattle.step_threads.proofs.Prelude.{Ending, IsPermutation-reverse, Stack}
use Rattle.std.specs.List.{list_any}
use Rattle.std.proofs.lemmas.List.Sorted.{list_any-IsPermutation}
use Rattle.step_threads.proofs.ending.Endings.has.Goals as goal

abbrev any_in : ℕ → List Ending → Bool
any_in block es = list_any (λ (e : Ending). e.block.0 == block) es

-- the same endings, the other way round
same : (block : ℕ) (read items : List Ending) (s t : Stack) → read ≡ items → s.list ≡ reverse items → s ≡ t
    → any_in block read ≡ any_in block t.list
same block read items s t is shown view =
    ap (any_in block) is
    ∙ list_any-IsPermutation (λ (e : Ending). e.block.0 == block) items (reverse items) (IsPermutation-reverse items)
    ∙ ap (any_in block) (sym shown)
    ∙ ap (λ (x : Stack). any_in block x.list) view

pub returns : goal.returns
returns c =
    c.has_block.ensures
    ∙ same c.args.block.0 c.as_slice.result.now c.self.inside.items.items _ c.args.self.now c.as_slice.ensures.value refl c.self.view_is
