use Rattle.std.proofs.Common.{◌∙◌, IfOk, subst, sym}
use Rattle.owner_graph.proofs.Prelude.{IsGraph, MarksReached, Rows}
use Rattle.owner_graph.proofs.directed_graph.graph.Graph.reached.Goals as goal

pub mark_reached-requires : goal.mark_reached-requires
mark_reached-requires c = subst IsGraph (sym c.as_slice.ensures.value) c.self.invariant

pub returns : goal.returns
returns c =
    subst (λ (g : Rows). IfOk c.mark_reached.result (λ marked. MarksReached g c.args.root marked.items)) (c.as_slice.ensures.value ∙ c.self.view_is)
    c.mark_reached.ensures
