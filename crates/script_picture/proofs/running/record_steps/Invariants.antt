use Rattle.std.proofs.Common.{◌≡◌, length}
use Rattle.step_core.specs.Runs.{IsRun}
use Rattle.step_core.specs.Worlds.{WorldState}
use Rattle.script_picture.specs.Recording.{Fits}
use Rattle.script_picture.proofs.Stepping.{HasSeen}
use Rattle.script_picture.proofs.running.record_steps.Given as goal

abbrev pub invariant-loop-step : goal.invariant-loop-step
invariant-loop-step l = record {
  sees : (last : WorldState) → IsRun l.fn.world l.steps last
      → HasSeen l.fn.world l.steps l.step-index last l.world l.fn.rows l.rows;
  part : l.rows.part ≡ l.fn.rows.part;
  actors : length l.world.frame_views ≡ length l.fn.world.frame_views;
  fits : Fits l.rows.source l.world;
}
