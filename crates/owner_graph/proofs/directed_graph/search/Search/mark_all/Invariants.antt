use Rattle.std.proofs.Common.{◌≡◌, take}
use Rattle.owner_graph.proofs.Prelude.{mark_all, marks_of}
use Rattle.owner_graph.proofs.directed_graph.search.Search.mark_all.Given as goal

abbrev pub invariant-loop-vertex : goal.invariant-loop-vertex
invariant-loop-vertex l = marks_of l.self ≡ mark_all (take l.vertex-index l.vertices) (marks_of l.fn.self)
