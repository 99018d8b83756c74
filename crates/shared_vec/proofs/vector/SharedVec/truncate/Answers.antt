use Rattle.std.proofs.Common.{◌-◌, arith, refl}
use Rattle.shared_vec.proofs.EndSteps.{truncates_ends, truncates_none, truncates_on}
use Rattle.shared_vec.proofs.vector.SharedVec.truncate.Goals as goal

pub loop-end-init : goal.loop-end-init
loop-end-init g c = (
  c.in_ok-end.ensures.place,
  truncates_none g.D.Domain.opened c.args.self.now.place c.in_ok-end.end c.in_ok-end.ensures.end,
)

pub loop-end-preserved : goal.loop-end-preserved
loop-end-preserved g c = (
  c.loop-end.invariant.0,
  truncates_on g.D.Domain.opened c.args.self.now.place c.loop-end.self.place c.loop-end.end (c.loop-end.end - 1)
      c.loop-end.invariant.0 c.loop-end.invariant.1 (omega arith) refl c.in_ok-clear.ensures.done,
)

pub returns-clause-done : goal.returns-clause-done
returns-clause-done g c =
    truncates_ends g.D.Domain.opened c.args.self.now.place c.loop-end.end c.args.length c.loop-end.invariant.1
    c.loop-end-test.false
