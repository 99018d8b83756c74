use Rattle.std.proofs.Common.{◌≡◌, ◌++◌, take}
use Rattle.owner_graph.proofs.Prelude.{filter, is_tie}
use Rattle.owner_graph.proofs.label_pairs.add_ties.Given as goal

abbrev pub invariant-loop-handle : goal.invariant-loop-handle
invariant-loop-handle l =
    l.ties.items ≡ l.fn.ties.items ++ filter (is_tie l.kept l.knots) (take l.handle-index l.handles)
