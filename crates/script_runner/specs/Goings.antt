-- How a thread goes on by an act that its table made, and where an act is passed over. All of it is own.
use Rattle.std.specs.Prelude.{◌≡◌, ℕ, Bool, true, false, List, [], ◌∷◌, ◌++◌}
use Rattle.script_runner.specs.Tables.{TableNow}
use Rattle.script_runner.specs.EndCalls.{Piled, TakesThread}
use Rattle.script_runner.specs.Logs.{told_line}
use Rattle.script_runner.specs.Seats.{Acts, IsQuiet, shown_slots}
use Rattle.step_table.specs.declared.memory.form.Form.{Form}
use Rattle.step_threads.specs.Frames.{idle, frame_settled, slots_idle, taken_idle}
use Rattle.step_threads.specs.Rows.{Reply, row, said_by_row}
use Rattle.step_threads.specs.declared.programs.act.Act.{Act}
use Rattle.step_threads.specs.declared.programs.act.Task.{Task}
use Rattle.step_threads.specs.declared.ending.Ending.{Ending}
use Rattle.step_threads.specs.declared.said.Said.{Said}

abbrev pub task : ℕ → Act → Task
task k a = record { statement = k; act = a }

module _ {V : Type 0} where
  -- by an act of statement k with this reply its thread goes on, whatever tasks come after it
  pub record GoesByAct (worth : Form → V) (m k : ℕ) (t u : TableNow V) (taken : Bool) (a : Act)
      (r : Reply) : Type 0 where
    pub endings : List Ending
    pub piled : Piled k u.endings endings
    pub takes : (todo : List Task) (log : List Said)
        → TakesThread worth t.desk (frame_settled (shown_slots m t.slots) taken [] (task k a ∷ todo)) log u.desk
        (frame_settled (shown_slots m u.slots) (row a (shown_slots m t.slots) taken r).taken endings todo)
        (log ++ told_line (said_by_row k (row a (shown_slots m t.slots) taken r)))

module _ (V : Type 0) where
  -- an act of the table, with nothing left to end before
  abbrev pub ActsOn : Type 0
  ActsOn =
      (worth : Form → V) (m k : ℕ) (t u : TableNow V) (taken : Bool) (a : Act) (r : Reply)
      → t.endings ≡ [] → idle a (shown_slots m t.slots) taken ≡ false → Acts worth m t taken a r u
      → GoesByAct worth m k t u taken a r

  -- a task that is no act where it comes
  abbrev pub PassesOver : Type 0
  PassesOver =
      (worth : Form → V) (m k : ℕ) (t u : TableNow V) (taken : Bool) (a : Act) (todo : List Task) (log : List Said)
      → IsQuiet t.desk u.desk → idle a (shown_slots m t.slots) taken ≡ true
      → shown_slots m u.slots ≡ slots_idle a (shown_slots m t.slots) taken
      → TakesThread worth t.desk (frame_settled (shown_slots m t.slots) taken [] (task k a ∷ todo)) log u.desk
      (frame_settled (shown_slots m u.slots) (taken_idle a taken) [] todo) log
