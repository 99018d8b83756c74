use Rattle.step_core.proofs.Prelude.{first_ghost}
use Rattle.step_core.proofs.Openings.{AreStarted}
use Rattle.step_core.proofs.start.threads_of.Given as goal

abbrev pub invariant-loop-desk : goal.invariant-loop-desk
invariant-loop-desk l = AreStarted (first_ghost l.extent) l.threads.items l.actors l.desk
