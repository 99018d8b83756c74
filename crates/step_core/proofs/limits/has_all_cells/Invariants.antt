use Rattle.std.proofs.Common.{ℕ, ◌<◌, get_or}
use Rattle.step_core.proofs.Prelude.{Call, HasCells}
use Rattle.step_core.proofs.limits.has_all_cells.Given as goal

abbrev pub invariant-loop-call : goal.invariant-loop-call
invariant-loop-call l = (k : ℕ) (d : Call) → k < l.call-index → HasCells l.shape (get_or l.actor.calls.items k d)
