use Rattle.std.proofs.Common.{◌≡◌, ◌+◌, ◌*◌, ◌≤◌, length, vec_len, vec_capacity}
use Rattle.step_core.proofs.Prelude.{AddsRun, most_steps, RunInOrder}
use Rattle.step_core.proofs.world.World.finish.Given as goal

abbrev pub invariant-loop-number : goal.invariant-loop-number
invariant-loop-number l = record {
  adds : AddsRun (RunInOrder l.number) l.initial.self l.initial.steps.items l.self l.steps.items;
  room : vec_len l.steps + most_steps l.self + 3 * length l.initial.self.frame_views ≤ vec_capacity l.steps + 3 * l.number;
  actors : length l.self.frame_views ≡ length l.initial.self.frame_views;
}
