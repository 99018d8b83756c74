use Rattle.std.proofs.Common.{Bool, List, subst}
use Rattle.owner_graph.proofs.Prelude.{AllFed, is_weakened, IsFed, without}
use Rattle.owner_graph.proofs.Layers.{layers_end}
use Rattle.owner_graph.proofs.search.layers.are_layers.Goals as goal

pub returns-clause-ends : goal.returns-clause-ends
returns-clause-ends c = λ yes.
    let stays = c.args.layers.now.stays.items in
    let hs = without (is_weakened c.args.knots.now c.args.weakening) c.args.handles.now in
    let marks = c.are_marks.ensures c.if-not-are_marks.false in
    let fed = subst (λ (s : List Bool). IsFed hs s c.in_ok-fed.fed.items)
    c.as_slice-stays.ensures.value c.in_ok-fed.ensures in
    let all = subst (λ (s : List Bool). AllFed s c.in_ok-fed.fed.items)
    c.as_slice-stays.ensures.value
    (subst (λ (f : List Bool). AllFed c.as_slice-stays.result.now f) c.as_slice.ensures.value
    (c.are_fed.ensures yes)) in
    layers_end (is_weakened c.args.knots.now c.args.weakening) c.args.handles.now stays
    c.args.layers.now.ranks.items marks.1
    (c.end_later.ensures c.if-not-end_later.false) c.args.vertices c.in_ok-fed.fed.items c.requires
    marks.0 fed all
