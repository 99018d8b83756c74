use Rattle.owner_graph.specs.Edges.{edges_by}
use Rattle.owner_graph.proofs.Appends.{take_more}
use Rattle.owner_graph.proofs.edges.edges_of.Goals as goal

pub loop-handle-preserved : goal.loop-handle-preserved
loop-handle-preserved c =
    take_more (edges_by) c.args.handles.now c.loop-handle.handle-index _ c.loop-handle.edges.items
    c.add_edge.new.edges.items
    c.loop-handle-test.true c.loop-handle.invariant c.in_ok-add_edge.ensures
