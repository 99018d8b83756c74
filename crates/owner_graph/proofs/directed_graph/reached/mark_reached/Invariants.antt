use Rattle.owner_graph.proofs.Prelude.{marks_of}
use Rattle.owner_graph.proofs.Marks.{left}
use Rattle.owner_graph.proofs.Searches.{Searched}
use Rattle.owner_graph.proofs.directed_graph.reached.mark_reached.Given as goal

abbrev pub invariant-loop-vertex : goal.invariant-loop-vertex
invariant-loop-vertex l = Searched l.graph l.root (marks_of l.search)

abbrev pub decreases-loop-vertex : goal.decreases-loop-vertex
decreases-loop-vertex l = left (marks_of l.search)
