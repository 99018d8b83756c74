-- What a worker's table has to be, and what it is where a thread begins. All of it is own.
use Rattle.std.specs.Prelude.{◌≡◌, ℕ, ◌≤◌, false, List, [], length}
use Rattle.control_block.specs.Desks.{allowance_of}
use Rattle.control_word.specs.declared.model.handle.Kind.{Kind}
use Rattle.script_runner.specs.Parting.{IsNew}
use Rattle.script_runner.specs.Tables.{HasScriptMembers, TableNow}
use Rattle.script_runner.specs.Deals.{thread_slots}
use Rattle.script_runner.specs.Kinds.{IsArranged, first_stance}
use Rattle.script_runner.specs.Seats.{IsQuiet}
use Rattle.script_text.specs.Scripts.{HasTextCells}
use Rattle.step_threads.specs.Interleavings.{no_slots}

-- a new table, with as many slots as a worker needs and room for a handle in each, in a domain with the cells that
-- texts name, and objects with a script's members
pub record IsFitting (t : TableNow ℕ) : Type 0 where
  pub new : IsNew 36 t
  pub room : 36 ≤ allowance_of t.desk
  pub cells : HasTextCells t.desk.shape
  pub members : HasScriptMembers t.desk.shape

-- the desk has seen no more, and nothing else is left to end
abbrev pub IsUnmoved : TableNow ℕ → TableNow ℕ → Type 0
IsUnmoved t u = IsQuiet t.desk u.desk × (u.endings ≡ t.endings)

-- a worker's table where its thread begins, whose names have these kinds: all of them are empty
pub record HasBegun (ks : List Kind) (hand : ℕ) (t u : TableNow ℕ) : Type 0 where
  pub unmoved : IsUnmoved t u
  pub arranged : IsArranged ks (first_stance ks) hand false u
  pub slots : thread_slots hand u ≡ no_slots (length ks)
  pub settled : u.endings ≡ []
