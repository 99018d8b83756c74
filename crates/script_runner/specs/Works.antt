-- What a worker makes of its thread, from its table's first state to its last. All of it is own.
use Rattle.std.specs.Prelude.{◌≡◌, ℕ, List, length}
use Rattle.script_runner.specs.Tables.{TableNow}
use Rattle.script_runner.specs.Deals.{field_0}
use Rattle.script_runner.specs.Notes.{Notes}
use Rattle.script_runner.specs.Teams.{PlaysThread}
use Rattle.script_runner.specs.Totals.{asked_in}
use Rattle.script_runner.specs.declared.workers.log.Log.{Log}
use Rattle.step_threads.specs.Acts.{tasks_from}
use Rattle.step_threads.specs.Programs.{Part}
use Rattle.step_threads.specs.declared.programs.act.Task.{Task}
use Rattle.step_threads.specs.declared.said.Said.{Said}
use Rattle.control_word.specs.declared.model.handle.Kind.{Kind}

-- the tasks are those of this part
abbrev pub IsFor : Part → List Kind → List Task → Type 0
IsFor part kinds tasks = (part.kinds ≡ kinds) × (tasks ≡ tasks_from 1 part.calls (length part.kinds))

-- a table is left as the last act of its thread leaves it, and the worker notes what the thread said
pub record HasPlayed (part : Part) (tasks : List Task) (w : Log) (t : TableNow ℕ) (x : Log)
    (u : TableNow ℕ) : Type 0 where
  pub lines : List Said
  pub plays : PlaysThread field_0 part t u lines
  pub notes : Notes w x (asked_in tasks) lines

-- whichever part the tasks are those of
abbrev pub IsWorked : List Kind → List Task → Log → TableNow ℕ → Log → TableNow ℕ → Type 0
IsWorked kinds tasks w t x u = (part : Part) → IsFor part kinds tasks → HasPlayed part tasks w t x u
