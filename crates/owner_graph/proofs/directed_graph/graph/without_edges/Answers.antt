use Rattle.owner_graph.proofs.MoreEdges.{vertex_more}
use Rattle.owner_graph.proofs.directed_graph.graph.without_edges.Goals as goal

pub loop-vertex-preserved : goal.loop-vertex-preserved
loop-vertex-preserved c =
    vertex_more c.loop-vertex.rows.items c.push.new.self.items _ c.loop-vertex._vertex c.in_ok-push.ensures.items c.new.ensures.items c.loop-vertex.invariant.0
    c.loop-vertex.invariant.1
