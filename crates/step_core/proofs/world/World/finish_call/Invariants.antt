use Rattle.std.proofs.Common.{◌+◌, ◌≤◌, vec_len, vec_capacity}
use Rattle.step_core.proofs.Prelude.{call_under_way, most_steps}
use Rattle.step_core.proofs.runs.Calls.{IsGoing}
use Rattle.step_core.proofs.runs.Measures.{alone_of, left_of, spare_of}
use Rattle.step_core.proofs.world.World.finish_call.Given as goal

abbrev pub invariant-loop-self : goal.invariant-loop-self
invariant-loop-self l = record {
  on : IsGoing (call_under_way l.number l.initial.self) l.number l.initial.self l.initial.steps.items l.self l.steps.items;
  room :
      vec_len l.steps + most_steps l.self + alone_of l.number l.self
      ≤ vec_len l.initial.steps + most_steps l.initial.self + 3 + spare_of l.number l.self;
  capacity : vec_capacity l.initial.steps ≤ vec_capacity l.steps;
}

abbrev pub decreases-loop-self : goal.decreases-loop-self
decreases-loop-self l = left_of l.number l.self
