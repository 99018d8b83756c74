use Rattle.std.proofs.Common.{arith}
use Rattle.leak_report.proofs.MoreLemmas.{one_more}
use Rattle.step_table.specs.GhostStates.{model_state}
use Rattle.script_picture.specs.Pointers.{in_block}
use Rattle.script_picture.proofs.pointers.add_blocks.Goals as goal

pub loop-before-preserved : goal.loop-before-preserved
loop-before-preserved c =
    one_more (in_block (model_state c.args.world.now.ghost_state)) 1 c.loop-before.before
    c.numbered.result.0 c.args.pointers.now.items c.loop-before.pointers.items
    c.add_block.new.pointers.items (omega (arith, c.numbered.ensures, c.from.ensures)) c.loop-before.invariant
    c.in_ok-add_block.ensures
