use Rattle.std.proofs.Common.{◌≡◌, ◌+◌, length}
use Rattle.owner_graph.proofs.Prelude.{HaveEnded, is_weakened, trues, without}
use Rattle.owner_graph.proofs.ends.by_rounds.Given as goal

abbrev pub invariant-loop-stays : goal.invariant-loop-stays
invariant-loop-stays l =
    (length l.stays.items ≡ l.vertices + 1)
    × HaveEnded l.vertices (without (is_weakened l.knots l.weakening) l.handles) l.stays.items

abbrev pub decreases-loop-stays : goal.decreases-loop-stays
decreases-loop-stays l = trues l.stays.items
