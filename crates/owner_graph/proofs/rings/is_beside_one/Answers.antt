use Rattle.std.proofs.Common.{subst, sym}
use Rattle.owner_graph.specs.Rings.{IsRing}
use Rattle.owner_graph.proofs.rings.is_beside_one.Goals as goal

pub returns-then-is_beside : goal.returns-then-is_beside
returns-then-is_beside c = λ _. (
  c.ring-item.result,
  subst (IsRing c.args.vertices c.args.index.now c.args.knots.now) (sym c.ring-item.is)
      (c.requires c.loop-ring.ring-index c.ring-item.result c.loop-ring-test.true),
  c.is_beside.ensures c.if-is_beside.true,
)
