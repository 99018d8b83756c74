use Rattle.owner_graph.proofs.MoreEdges.{is_graph}
use Rattle.owner_graph.proofs.directed_graph.graph.Graph.new.Goals as goal

pub invariant_of-result : goal.invariant_of-result
invariant_of-result c = is_graph c.in_ok-rows.rows.items c.args.edges.now c.args.vertices c.in_ok-rows.ensures
    (c.are_within.ensures.0 c.if-not-are_within.false)
