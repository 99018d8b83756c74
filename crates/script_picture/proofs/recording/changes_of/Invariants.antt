use Rattle.std.specs.Prelude.{All}
use Rattle.step_table.specs.GhostStates.{model_state}
use Rattle.script_picture.specs.Acts.{TellsCounts}
use Rattle.script_picture.proofs.recording.changes_of.Given as goal

abbrev pub invariant-loop-thread : goal.invariant-loop-thread
invariant-loop-thread l = All (TellsCounts (model_state l.world.ghost_state)) l.changes.items
