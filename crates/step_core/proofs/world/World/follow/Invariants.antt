use Rattle.std.proofs.Common.{◌≡◌, ◌+◌, ◌*◌, ◌≤◌, map, length, take, vec_len, vec_capacity, All}
use Rattle.step_core.proofs.Prelude.{IsRun, most_steps, MovesOn, TraceStep}
use Rattle.step_core.proofs.world.World.follow.Given as goal

abbrev pub invariant-loop-turn : goal.invariant-loop-turn
invariant-loop-turn l = record {
  run : IsRun l.initial.self l.steps.items l.self;
  numbers : map (λ (x : TraceStep). x.actor) l.steps.items ≡ take l.turn-index l.turns;
  moves : All MovesOn l.steps.items;
  len : vec_len l.steps ≡ l.turn-index;
  room : length l.turns + most_steps l.self + 6 * length l.self.frame_views ≤ vec_capacity l.steps;
  actors : length l.self.frame_views ≡ length l.initial.self.frame_views;
}
