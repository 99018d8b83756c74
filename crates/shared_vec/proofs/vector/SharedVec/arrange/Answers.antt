use Rattle.std.proofs.Common.{arith, inl}
use Rattle.shared_vec.proofs.Sorts.{comes, comes_on}
use Rattle.shared_vec.specs.Sorts.{Comes}
use Rattle.shared_vec.proofs.vector.SharedVec.arrange.Goals.{then-placed-start-via-then-placed-start}
use Rattle.shared_vec.proofs.vector.SharedVec.arrange.Goals.{then-placed-start-via-else-placed-start+then-order-start}
use Rattle.shared_vec.proofs.vector.SharedVec.arrange.Goals as goal

pub loop-start-preserved-then-placed-start : goal.loop-start-preserved-then-placed-start
loop-start-preserved-then-placed-start g c =
    let came : Comes g.D.Domain.opened c.args.self.now.place c.args.order.now c.loop-start.start =
    elim c.then-placed-start.branch [
      | then-placed-start-via-then-placed-start w ↦
          c.loop-start.invariant.1 c.loop-start.start _ (omega arith) w.if-placed-start.true
      | then-placed-start-via-else-placed-start+then-order-start w ↦ comes g.D.Domain.opened c.args.self.now.place
          c.args.order.now c.loop-start.start w.index-order-start.result (omega arith) (inl w.if-order-start.true)
    ] in (
      λ i below. comes_on g.D.Domain.opened c.args.self.now.place c.args.order.now c.loop-start.start i
          c.loop-start.invariant.0 came below,
      c.loop-start.invariant.1,
    )

pub loop-start-preserved : goal.loop-start-preserved
loop-start-preserved g c = (
  λ i below. comes_on g.D.Domain.opened c.args.self.now.place c.args.order.now c.loop-start.start i
      c.loop-start.invariant.0 c.in_ok-rotate.ensures.done below,
  c.in_ok-rotate.ensures.placed,
)
