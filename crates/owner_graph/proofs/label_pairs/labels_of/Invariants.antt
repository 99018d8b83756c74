use Rattle.std.proofs.Common.{◌≡◌, ◌++◌, drop}
use Rattle.owner_graph.proofs.Prelude.{labels_of, new_labels}
use Rattle.owner_graph.proofs.label_pairs.labels_of.Given as goal

abbrev pub invariant-loop-handle : goal.invariant-loop-handle
invariant-loop-handle l =
    labels_of l.handles ≡ l.labels.items
    ++ new_labels l.labels.items (drop l.handle-index l.handles)
