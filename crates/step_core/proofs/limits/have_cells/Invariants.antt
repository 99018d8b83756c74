use Rattle.std.proofs.Common.{ℕ, ◌<◌, get_or}
use Rattle.step_core.proofs.Prelude.{Actor, AllHaveCells, part_of}
use Rattle.step_core.proofs.limits.have_cells.Given as goal

abbrev pub invariant-loop-actor : goal.invariant-loop-actor
invariant-loop-actor l = (k : ℕ) (d : Actor) → k < l.actor-index → AllHaveCells l.shape (part_of (get_or l.actors k d))
