use Rattle.std.specs.Prelude.{All}
use Rattle.step_table.specs.GhostStates.{model_state}
use Rattle.script_picture.specs.Acts.{TellsCounts}
use Rattle.script_picture.proofs.recording.add_changes.Given as goal

abbrev pub invariant-loop-number : goal.invariant-loop-number
invariant-loop-number l = All (TellsCounts (model_state l.world.ghost_state)) l.changes.items
