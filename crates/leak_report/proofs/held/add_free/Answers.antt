use Rattle.std.proofs.Common.{arith}
use Rattle.leak_report.proofs.Prelude.{held_by_free, model_state}
use Rattle.leak_report.proofs.MoreLemmas.{one_more}
use Rattle.leak_report.proofs.held.add_free.Goals as goal

pub loop-number-preserved : goal.loop-number-preserved
loop-number-preserved c = (
  one_more (held_by_free (model_state c.args.world.now.ghost_state)) 0 c.loop-number.number c.loop-number.number c.args.holdings.now.items
      c.loop-number.holdings.items c.add.new.holdings.items (omega arith) c.loop-number.invariant.0 c.in_ok-add.ensures.held,
  λ all. c.in_ok-add.ensures.among (c.loop-number.invariant.1 all),
)
