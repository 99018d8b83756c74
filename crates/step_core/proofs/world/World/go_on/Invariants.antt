use Rattle.step_core.proofs.turning.Trying.{IsTrying}
use Rattle.step_core.proofs.runs.Measures.{left_of}
use Rattle.step_core.proofs.world.World.go_on.Given as goal

abbrev pub invariant-loop-stepped : goal.invariant-loop-stepped
invariant-loop-stepped l = IsTrying l.number l.initial.self l.self

abbrev pub decreases-loop-stepped : goal.decreases-loop-stepped
decreases-loop-stepped l = left_of l.number l.self
