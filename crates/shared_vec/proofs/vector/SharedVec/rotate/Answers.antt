use Rattle.std.proofs.Common.{inr}
use Rattle.shared_vec.proofs.Sorts.{comes, comes_first, placed_last, placed_on}
use Rattle.shared_vec.proofs.vector.SharedVec.rotate.Goals as goal

pub returns-then-from-start-clause-placed : goal.returns-then-from-start-clause-placed
returns-then-from-start-clause-placed g c =
    placed_last g.D.Domain.opened c.args.self.now.place c.args.order.now c.loop.placed c.args.start c.loop.place
    c.index-order-place.result c.put.result c.loop.invariant.1 c.loop.invariant.0 c.if-from-start.true
    (c.put.ensures.done c.args.start c.in-Ok.ensures.done)

pub loop-preserved : goal.loop-preserved
loop-preserved g c =
    let o = g.D.Domain.opened in
    let came = comes o c.args.self.now.place c.args.order.now c.loop.place c.index-order-place.result c.loop.invariant.0
    (inr c.in_default.ensures.done) in (
      c.requires.below c.loop.place c.index-order-place.result c.loop.invariant.0,
      placed_on o c.args.self.now.place c.args.order.now c.loop.placed c.loop.place c.loop.invariant.1 came,
      inr (comes_first o c.args.self.now.place c.args.order.now c.args.start c.loop.place c.loop.invariant.2 came),
    )
