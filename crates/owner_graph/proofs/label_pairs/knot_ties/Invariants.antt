use Rattle.std.proofs.Common.{◌≡◌, take}
use Rattle.owner_graph.proofs.Prelude.{filter, flat_map, Holding, is_tie, row_at}
use Rattle.owner_graph.proofs.label_pairs.knot_ties.Given as goal

abbrev pub invariant-loop-member : goal.invariant-loop-member
invariant-loop-member l =
    l.ties.items ≡ flat_map (λ (m : Holding). filter (is_tie l.kept l.knots)
    (row_at l.sources m.from)) (take l.member-index l.members)
