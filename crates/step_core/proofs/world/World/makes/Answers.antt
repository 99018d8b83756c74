use Rattle.std.proofs.Common.{arith}
use Rattle.step_core.proofs.Prelude.{is_make_in}
use Rattle.step_core.proofs.telling.CallCounts.{fits_more, one_thread}
use Rattle.step_core.proofs.world.World.makes.Goals as goal

pub overflow_add-makes : goal.overflow_add-makes
overflow_add-makes c =
    let few = fits_more (is_make_in c.args.block.0) c.args.self.now.pending_calls c.loop-thread.thread-index
    c.loop-thread.makes c.from-makes.result c.is_make.result c.requires c.loop-thread.invariant c.from-makes.ensures in
    omega (arith, few)

pub loop-thread-preserved : goal.loop-thread-preserved
loop-thread-preserved c =
    one_thread (is_make_in c.args.block.0) c.args.self.now c.self.inside.table
    c.self.inside.threads.items c.deref-thread-items.result.now c.loop-thread.thread-index c.thread-item.result c.loop-thread.makes
    c.from-makes.result c.is_make.result c.self.view_is c.deref-thread-items.ensures.value c.loop-thread-test.true c.thread-item.is
    c.loop-thread.invariant c.from-makes.ensures c.is_make.ensures
