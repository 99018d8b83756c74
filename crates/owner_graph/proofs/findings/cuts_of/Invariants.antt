use Rattle.std.proofs.Common.{◌≡◌, ◌↔◌, ◌<◌, ℕ, length, true}
use Rattle.owner_graph.proofs.Prelude.{at, EndsWhenCut, handle_listed, is_tie, marked}
use Rattle.owner_graph.proofs.findings.cuts_of.Given as goal

abbrev pub invariant-loop-handle : goal.invariant-loop-handle
invariant-loop-handle l =
    (length l.cuts.items ≡ l.handle-index)
    × ((i : ℕ) → i < l.handle-index → marked l.cuts.items i ≡ true
    ↔ ((is_tie l.kept l.knots (handle_listed l.handles i) ≡ true)
    × EndsWhenCut l.vertices l.handles (at l.knots (handle_listed l.handles i).from)
    (handle_listed l.handles i)))
