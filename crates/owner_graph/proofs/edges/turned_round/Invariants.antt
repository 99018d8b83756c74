use Rattle.std.proofs.Common.{◌≡◌, take}
use Rattle.owner_graph.proofs.Prelude.{back_edges}
use Rattle.owner_graph.proofs.edges.turned_round.Given as goal

abbrev pub invariant-loop-edge : goal.invariant-loop-edge
invariant-loop-edge l = l.back.items ≡ back_edges (take l.edge-index l.edges)
