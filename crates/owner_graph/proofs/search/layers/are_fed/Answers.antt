use Rattle.std.proofs.Common.{◌≡◌, ◌≢◌, true}
use Rattle.owner_graph.proofs.Prelude.{marked}
use Rattle.owner_graph.proofs.Steps.{next_below}
use Rattle.owner_graph.proofs.search.layers.are_fed.Goals as goal

pub loop-vertex-preserved : goal.loop-vertex-preserved
loop-vertex-preserved c =
    next_below (λ b. b ≢ 0 → marked c.args.stays.now b ≡ true → marked c.args.fed.now b ≡ true)
    c.loop-vertex.vertex c.loop-vertex.invariant
    (c.is_fed.ensures c.if-not-is_fed.false)
