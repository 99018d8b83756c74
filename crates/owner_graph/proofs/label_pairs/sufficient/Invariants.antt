use Rattle.std.proofs.Common.{take}
use Rattle.owner_graph.proofs.Prelude.{AreThose, Suffices}
use Rattle.owner_graph.proofs.label_pairs.sufficient.Given as goal

abbrev pub invariant-loop-pair : goal.invariant-loop-pair
invariant-loop-pair l =
    AreThose (Suffices l.vertices l.handles l.knots l.least) (take l.pair-index l.pairs)
    l.found.items
