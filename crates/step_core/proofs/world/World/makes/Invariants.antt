use Rattle.std.proofs.Common.{◌≡◌, take}
use Rattle.step_core.proofs.Prelude.{makes_in}
use Rattle.step_core.proofs.world.World.makes.Given as goal

abbrev pub invariant-loop-thread : goal.invariant-loop-thread
invariant-loop-thread l = l.makes ≡ makes_in l.block.0 (take l.thread-index l.self.pending_calls)
