-- How a script's run begins. All of it is own.
use Rattle.std.specs.Prelude.{ℕ, ◌*◌, ◌/◌, List, length}
use Rattle.control_word.specs.declared.shape.Shape.{Shape}
use Rattle.script_text.specs.Drafts.{ScriptView}
use Rattle.script_text.specs.Scripts.{program_in}
use Rattle.script_text.specs.Versions.{blocks_in}
use Rattle.step_threads.specs.AbstractStates.{AbstractState}
use Rattle.step_core.specs.Worlds.{WorldState, abstraction}
use Rattle.step_core.specs.Starts.{first_world_state}
use Rattle.control_word.specs.declared.model.event.Entry.{Entry}
use Rattle.control_word.specs.State.{Opening}
use Rattle.step_core.specs.Following.{no_worth}
use Rattle.step_table.specs.GhostStates.{Nothing}
use Rattle.step_threads.specs.declared.said.Said.{Said}
use Rattle.step_threads.specs.Interleavings.{Interleaves}

-- each of the threads has the same number of blocks, as many as there are for all; an object has three members
abbrev pub shape_for : ℕ → ℕ → Shape
shape_for blocks threads =
    record {
      blocks = blocks / threads * threads;
      owners = 2;
      weaks = 1;
      shared_cells = 128;
      weak_cells = 128;
      allowance = 1048576;
    }

abbrev pub script_shape : ScriptView → Shape
script_shape script = shape_for (blocks_in script.version) (length script.threads)

-- nothing has happened, and each thread is before its first act
abbrev pub script_world_state : ScriptView → WorldState
script_world_state script = first_world_state (script_shape script) (program_in script.threads)

abbrev pub script_abstraction : ScriptView → AbstractState
script_abstraction script = abstraction (script_world_state script)

-- this history of a domain that began so is an interleaving of the script's threads, on the desks
-- from n on, whoever made it, and that is what each of them says; no statement asks for an object's
-- value
abbrev pub IsRunOf : ScriptView → Opening → List (Entry Nothing) → ℕ → (ℕ → List Said) → Type 0
IsRunOf script z h n said = Interleaves no_worth z h n (program_in script.threads) said
