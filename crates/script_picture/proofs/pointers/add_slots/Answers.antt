use Rattle.std.proofs.Common.{arith}
use Rattle.leak_report.proofs.MoreLemmas.{one_more}
use Rattle.step_core.specs.Worlds.{abstraction}
use Rattle.script_picture.specs.Pointers.{in_slot}
use Rattle.script_picture.proofs.pointers.add_slots.Goals as goal

pub loop-number-preserved : goal.loop-number-preserved
loop-number-preserved c =
    one_more (in_slot (abstraction c.args.world.now) c.args.thread) 0 c.loop-number.number
    c.loop-number.number c.args.pointers.now.items c.loop-number.pointers.items
    c.add_slot.new.pointers.items (omega arith) c.loop-number.invariant c.in_ok-add_slot.ensures
