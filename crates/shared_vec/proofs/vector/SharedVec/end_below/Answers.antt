use Rattle.shared_vec.proofs.EndSteps.{between_down, between_ends, between_up}
use Rattle.shared_vec.proofs.vector.SharedVec.end_below.Goals as goal
use Rattle.shared_vec.proofs.vector.SharedVec.end_below.Goals.{then-branch, else-branch}

pub loop-low-preserved : goal.loop-low-preserved
loop-low-preserved g c =
    let o = g.D.Domain.opened in
    elim c.if-branch.branch [
      | then-branch w ↦ between_down o c.args.self.now.place c.loop-low.low c.loop-low.high c.loop-low.middle
          c.if-branch.low c.if-branch.high c.in_ok-is_empty_at.field-0 c.loop-low.invariant
          c.in_ok-is_empty_at.ensures.told w.if-branch.true w.low-is w.high-is
      | else-branch w ↦ between_up o c.args.self.now.place c.loop-low.low c.loop-low.high c.loop-low.middle
          c.if-branch.low c.if-branch.high c.in_ok-is_empty_at.field-0 c.loop-low.invariant c.loop-low-test.true
          c.in_ok-is_empty_at.ensures.told w.if-branch.false w.low-is w.high-is
    ]

pub returns-clause-end : goal.returns-clause-end
returns-clause-end g c =
    between_ends g.D.Domain.opened c.args.self.now.place c.loop-low.low c.loop-low.high c.loop-low.middle
    c.loop-low.invariant c.loop-low-test.false
