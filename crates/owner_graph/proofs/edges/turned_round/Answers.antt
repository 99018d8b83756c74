use Rattle.owner_graph.specs.Edges.{back}
use Rattle.owner_graph.proofs.Appends.{take_more}
use Rattle.owner_graph.proofs.edges.turned_round.Goals as goal

pub loop-edge-preserved : goal.loop-edge-preserved
loop-edge-preserved c =
    take_more back c.args.edges.now c.loop-edge.edge-index _ c.loop-edge.back.items
    c.push.new.self.items
    c.loop-edge-test.true c.loop-edge.invariant c.in_ok-push.ensures.items
