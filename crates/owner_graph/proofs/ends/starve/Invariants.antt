use Rattle.owner_graph.proofs.Feeds.{HasStarved}
use Rattle.owner_graph.proofs.ends.starve.Given as goal

abbrev pub invariant-loop-vertex : goal.invariant-loop-vertex
invariant-loop-vertex l = HasStarved l.fed l.fn.stays.items l.stays.items l.vertex l.found
