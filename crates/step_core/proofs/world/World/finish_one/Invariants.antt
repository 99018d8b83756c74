use Rattle.std.proofs.Common.{◌+◌, ◌≤◌, vec_len, vec_capacity}
use Rattle.step_core.proofs.Prelude.{most_steps}
use Rattle.step_core.proofs.runs.Chains.{IsOn}
use Rattle.step_core.proofs.runs.Measures.{alone_of, left_of, spare_of}
use Rattle.step_core.proofs.world.World.finish_one.Given as goal

abbrev pub invariant-loop-stepped : goal.invariant-loop-stepped
invariant-loop-stepped l = record {
  on : IsOn l.number l.initial.self l.initial.steps.items l.self l.steps.items;
  room :
      vec_len l.steps + most_steps l.self + alone_of l.number l.self
      ≤ vec_len l.initial.steps + most_steps l.initial.self + 3 + spare_of l.number l.self;
  capacity : vec_capacity l.initial.steps ≤ vec_capacity l.steps;
}

abbrev pub decreases-loop-stepped : goal.decreases-loop-stepped
decreases-loop-stepped l = left_of l.number l.self
