use Rattle.std.proofs.Common.{arith}
use Rattle.leak_report.proofs.Prelude.{held_by_block, model_state}
use Rattle.leak_report.proofs.MoreLemmas.{one_more}
use Rattle.leak_report.proofs.held.add_blocks.Goals as goal

pub loop-before-preserved : goal.loop-before-preserved
loop-before-preserved c = (
  one_more (held_by_block (model_state c.args.world.now.ghost_state)) 1 c.loop-before.before c.numbered.result.0 c.args.holdings.now.items
      c.loop-before.holdings.items c.add_members.new.holdings.items
      (omega (arith, c.numbered.ensures, c.from.ensures)) c.loop-before.invariant.0 c.in_ok-add_members.ensures.held,
  λ all. c.in_ok-add_members.ensures.among (c.loop-before.invariant.1 all),
)
