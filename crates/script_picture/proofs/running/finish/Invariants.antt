use Rattle.std.proofs.Common.{◌-◌}
use Rattle.step_core.specs.Worlds.{abstraction}
use Rattle.script_stepper.specs.Running.{turns_left}
use Rattle.script_picture.proofs.Taking.{Alone}
use Rattle.script_picture.proofs.running.finish.Given as goal

abbrev pub invariant-loop : goal.invariant-loop
invariant-loop l = Alone l.thread l.fn.world l.world l.fn.rows l.rows

abbrev pub decreases-loop : goal.decreases-loop
decreases-loop l = turns_left (l.thread - 1) (abstraction l.world)
