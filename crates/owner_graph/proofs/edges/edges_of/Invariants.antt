use Rattle.std.proofs.Common.{◌≡◌, take}
use Rattle.owner_graph.proofs.Prelude.{owner_edges}
use Rattle.owner_graph.proofs.edges.edges_of.Given as goal

abbrev pub invariant-loop-handle : goal.invariant-loop-handle
invariant-loop-handle l = l.edges.items ≡ owner_edges (take l.handle-index l.handles)
