use Rattle.std.proofs.Common.{◌≡◌, ◌<◌, ℕ, length}
use Rattle.owner_graph.proofs.Prelude.{at}
use Rattle.owner_graph.proofs.labels.labels_of.Given as goal

abbrev pub invariant-loop-vertex : goal.invariant-loop-vertex
invariant-loop-vertex l =
    (length l.labels.items ≡ l.vertex)
    × ((b : ℕ) → b < l.vertex → at l.labels.items b ≡ at l.certificate.firsts.items
    (at l.certificate.ranks.items b))
