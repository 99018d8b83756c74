use Rattle.std.proofs.Common.{◌≡◌, ◌∙◌, List, ap, subst}
use Rattle.owner_graph.proofs.Prelude.{AreWeakenings, held_on, Holding, homes, labels_of, row_at}
use Rattle.owner_graph.proofs.Prelude.{Vec}
use Rattle.owner_graph.proofs.WeakeningLemmas.{ties_by_rows}
use Rattle.owner_graph.proofs.findings.weakenings_at.Goals as goal

pub returns : goal.returns
returns c = λ _.
    let index = c.args.index.now in
    let members : c.row-members.result.now ≡ held_on (homes c.args.knots.now c.args.vertices)
    c.args.vertex =
    c.row-members.ensures ∙ ap (λ (rows : List (Vec Holding)). row_at rows c.as_index-3.result)
    c.as_slice.ensures.value
    ∙ ap (row_at index.members.items) c.as_index-3.ensures
    ∙ c.requires.index.members c.args.vertex in
    subst (λ (l : List Holding). AreWeakenings c.args.vertices c.args.handles.now c.args.knots.now
    c.args.vertex (labels_of l) c.in_ok-found.found.items)
    (c.as_slice-2.ensures.value ∙ c.in_ok-ties.ensures
    ∙ ties_by_rows c.args.vertices c.args.handles.now c.args.kept.now c.args.knots.now
    c.args.sources.now c.row-members.result.now c.args.vertex
    c.requires.sources members) c.in_ok-found.ensures
