use Rattle.std.proofs.Common.{◌≡◌, take}
use Rattle.step_core.proofs.Prelude.{loads_on, model_state}
use Rattle.step_core.proofs.world.World.loads.Given as goal

abbrev pub invariant-loop-thread : goal.invariant-loop-thread
invariant-loop-thread l = l.loads ≡ loads_on (model_state l.self.ghost_state) l.block.0 l.kind (take l.thread-index l.self.pending_calls)
