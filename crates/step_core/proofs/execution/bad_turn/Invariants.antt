use Rattle.std.proofs.Common.{ℕ, ◌<◌, get_or}
use Rattle.step_core.proofs.Prelude.{NamesActor}
use Rattle.step_core.proofs.execution.bad_turn.Given as goal

abbrev pub invariant-loop-index : goal.invariant-loop-index
invariant-loop-index l = (k : ℕ) → k < l.index → NamesActor l.actors (get_or l.turns k 0)
