use Rattle.std.proofs.Common.{◌≡◌, ◌++◌, length}
use Rattle.owner_graph.proofs.Prelude.{pairs}
use Rattle.owner_graph.proofs.label_pairs.pairs.Given as goal

abbrev pub invariant-loop-left : goal.invariant-loop-left
invariant-loop-left l = pairs l.labels ≡ l.pairs.items ++ pairs l.left

abbrev pub decreases-loop-left : goal.decreases-loop-left
decreases-loop-left l = length l.left
