use Rattle.std.proofs.Common.{◌≡◌, map, take}
use Rattle.owner_graph.proofs.Prelude.{twice}
use Rattle.owner_graph.proofs.label_pairs.singles.Given as goal

abbrev pub invariant-loop-label : goal.invariant-loop-label
invariant-loop-label l =
    l.singles.items ≡ map twice (take l.label-index l.labels)
