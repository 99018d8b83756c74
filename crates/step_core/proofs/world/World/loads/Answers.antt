use Rattle.std.proofs.Common.{arith}
use Rattle.step_core.proofs.Prelude.{is_load_on, model_state}
use Rattle.step_core.proofs.telling.CallCounts.{fits_more, one_thread}
use Rattle.step_core.proofs.world.World.loads.Goals as goal

pub overflow_add-loads : goal.overflow_add-loads
overflow_add-loads c =
    let few = fits_more (is_load_on (model_state c.args.self.now.ghost_state) c.args.block.0 c.args.kind) c.args.self.now.pending_calls
    c.loop-thread.thread-index c.loop-thread.loads c.from-loads.result c.is_load.result c.requires c.loop-thread.invariant c.from-loads.ensures in
    omega (arith, few)

pub loop-thread-preserved : goal.loop-thread-preserved
loop-thread-preserved c =
    one_thread (is_load_on (model_state c.args.self.now.ghost_state) c.args.block.0 c.args.kind) c.args.self.now c.self.inside.table
    c.self.inside.threads.items c.deref-thread-items.result.now c.loop-thread.thread-index c.thread-item.result c.loop-thread.loads
    c.from-loads.result c.is_load.result c.self.view_is c.deref-thread-items.ensures.value c.loop-thread-test.true c.thread-item.is
    c.loop-thread.invariant c.from-loads.ensures c.is_load.ensures
