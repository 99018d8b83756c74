use Rattle.owner_graph.proofs.search.components.ComponentSearch.close.Given as goal

abbrev pub decreases-loop-member : goal.decreases-loop-member
decreases-loop-member l = goal.left-loop-member l
