use Rattle.std.proofs.Common.{take}
use Rattle.owner_graph.proofs.Prelude.{All, AreCuts, IsAmong}
use Rattle.owner_graph.proofs.tie.cuts_by.Given as goal

abbrev pub invariant-loop-tie : goal.invariant-loop-tie
invariant-loop-tie l =
    AreCuts l.vertices l.handles (take l.tie-index l.ties) l.cuts.items
    × All (IsAmong l.vertices) l.cuts.items
