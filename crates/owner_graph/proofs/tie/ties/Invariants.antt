use Rattle.std.proofs.Common.{◌≡◌, take}
use Rattle.owner_graph.proofs.Prelude.{All, flat_map, Holding, IsAmong, IsTied, ties_by, ◌≤◌}
use Rattle.owner_graph.proofs.tie.ties.Given as goal

abbrev pub invariant-loop-handle : goal.invariant-loop-handle
invariant-loop-handle l =
    (l.ties.items ≡ flat_map (ties_by l.kept l.knots) (take l.handle-index l.handles))
    × All (λ (h : Holding). (1 ≤ h.to) × (h.to ≤ l.vertices)) l.ties.items
    × All (IsAmong l.vertices) l.ties.items
    × All (IsTied l.knots) l.ties.items
