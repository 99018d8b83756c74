use Rattle.std.proofs.Common.{◌≡◌, ◌++◌, map, take}
use Rattle.owner_graph.proofs.Prelude.{label_pair}
use Rattle.owner_graph.proofs.label_pairs.add_pairs.Given as goal

abbrev pub invariant-loop-label : goal.invariant-loop-label
invariant-loop-label l =
    l.pairs.items ≡ l.fn.pairs.items ++ map (label_pair l.first) (take l.label-index l.labels)
