use Rattle.step_core.proofs.turning.Resting.{IsOn}
use Rattle.step_core.proofs.runs.Measures.{left_of}
use Rattle.step_core.proofs.world.World.rest.Given as goal

abbrev pub invariant-loop-self : goal.invariant-loop-self
invariant-loop-self l = IsOn l.number l.initial.self l.self

abbrev pub decreases-loop-self : goal.decreases-loop-self
decreases-loop-self l = left_of l.number l.self
