use Rattle.std.proofs.Common.{◌≡◌}
use Rattle.owner_graph.proofs.Prelude.{All, homes, IsAmong}
use Rattle.owner_graph.proofs.index.homes.Given as goal

abbrev pub invariant-loop-before : goal.invariant-loop-before
invariant-loop-before l =
    (l.homes.items ≡ homes l.knots l.before) × All (IsAmong l.vertices) l.homes.items
