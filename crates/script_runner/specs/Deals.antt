-- What a worker does for an act of its thread. All of it is own.
use Rattle.std.specs.Prelude.{◌≡◌, ◌⊎◌, ◌<◌, ◌+◌, ◌∷◌, ◌++◌}
use Rattle.std.specs.Prelude.{ℕ, Bool, true, false, List, []}
use Rattle.std.specs.Prelude.{None, IfNone, IfSome, Option, get_or, slice_get, Some}
use Rattle.control_block.specs.Desks.{object_in}
use Rattle.script_runner.specs.Handles.{EmptiesSlot, EmptiesSlotWeakly}
use Rattle.script_runner.specs.Tables.{TableNow}
use Rattle.script_runner.specs.CellCalls.{ByCompare, ByDiffering}
use Rattle.script_runner.specs.EndCalls.{Piled, TakesThread}
use Rattle.script_runner.specs.Seats.{Acts, IsQuiet, IsSeated, shown_slots}
use Rattle.script_runner.specs.declared.acts.act_result.ActResult.{ActResult}
use Rattle.shared_handle.specs.Piles.{AllEnd}
use Rattle.shared_handle.specs.declared.endings.Ending as pile
use Rattle.shared_handle.specs.declared.pile.Gone.TheVariants as gone
use Rattle.shared_handle.specs.declared.pile.Round.TheVariants.{Cleared}
use Rattle.shared_handle.specs.declared.pile.Round.{Round}
use Rattle.step_table.specs.AtomicSteps.{remains}
use Rattle.step_table.specs.Registers.{Slots}
use Rattle.step_table.specs.declared.memory.ended.Ended.{Ended}
use Rattle.step_table.specs.declared.memory.form.Form.{Form}
use Rattle.step_threads.specs.Frames.{idle, frame_settled, slots_idle, taken_idle}
use Rattle.step_threads.specs.Rows.{Reply, row}
use Rattle.step_threads.specs.declared.programs.act.Act.{Act}
use Rattle.step_threads.specs.declared.programs.act.Act.TheVariants as act
use Rattle.step_threads.specs.declared.programs.act.Task.{Task}
use Rattle.step_threads.specs.declared.programs.call.CellName.{CellName}
use Rattle.step_threads.specs.declared.programs.call.CellName.TheVariants as cell
use Rattle.step_threads.specs.declared.ending.Ending.{Ending}
use Rattle.step_threads.specs.declared.said.Said.{Said}

-- an object's value is its field 0
abbrev pub field_0 : Form → ℕ
field_0 form = get_or form.fields 0 0

-- the slots of a thread whose hand is this one
abbrev pub thread_slots : ℕ → TableNow ℕ → Slots
thread_slots hand t = shown_slots (hand + 1) t.slots

-- an object has three members
abbrev pub IsThird : CellName → Type 0
IsThird (cell.Member k m) = m < 3
IsThird _ = Unit {0}

-- an act of the thread's, by a reply of the table
pub record IsActed (hand : ℕ) (t : TableNow ℕ) (taken : Bool) (a : Act) (x : ActResult) (u : TableNow ℕ) : Type 0 where
  pub busy : idle a (thread_slots hand t) taken ≡ false
  pub reply : Reply
  pub acts : Acts field_0 (hand + 1) t taken a reply u
  pub takes : x.taken ≡ (row a (thread_slots hand t) taken reply).taken
  pub says : x.answer ≡ (row a (thread_slots hand t) taken reply).answer
  pub tells : x.ended ≡ (row a (thread_slots hand t) taken reply).ended

-- no act where it comes
pub record IsPassedOver (hand : ℕ) (t : TableNow ℕ) (taken : Bool) (a : Act) (x : ActResult)
    (u : TableNow ℕ) : Type 0 where
  pub free : idle a (thread_slots hand t) taken ≡ true
  pub quiet : IsQuiet t.desk u.desk
  pub slots : thread_slots hand u ≡ slots_idle a (thread_slots hand t) taken
  pub endings : u.endings ≡ t.endings
  pub takes : x.taken ≡ taken_idle a taken
  pub silent : (x.answer ≡ None) × (x.ended ≡ None)

abbrev pub IsDealt : ℕ → TableNow ℕ → Bool → Act → ActResult → TableNow ℕ → Type 0
IsDealt hand t taken a x u = IsActed hand t taken a x u ⊎ IsPassedOver hand t taken a x u

-- the hand is a slot of the table, full or vacant
pub record IsHandOfTable (hand : ℕ) (t : TableNow ℕ) (full : Bool) : Type 0 where
  pub seated : IsSeated (hand + 1) hand t
  pub vacant : full ≡ false → slice_get t.slots hand ≡ Some None
  pub ends : AllEnd t.desk t.endings

-- what is told of the object that was last left to end
abbrev pub IsTop : TableNow ℕ → Ended → Type 0
IsTop t r = (below : List (pile.Ending ℕ)) × (x : pile.Ending ℕ) × (t.endings ≡ below ++ x ∷ [])
    × (r ≡ remains (object_in t.desk x.block.0))

-- what is told of an object that ended by a round
abbrev pub IsRoundTold : TableNow ℕ → Round ℕ → Option Ended → Type 0
IsRoundTold u (Cleared m gone.Last) e = IfNone e (u.endings ≡ []) × IfSome e (IsTop u)
IsRoundTold u _ e = e ≡ None

-- a name became empty
abbrev pub IsEmptied : TableNow ℕ → ℕ → TableNow ℕ → Type 0
IsEmptied t i u = EmptiesSlot t i u ⊎ EmptiesSlotWeakly t i u

-- what a thread says by an act of statement k
abbrev pub statement_says : ℕ → ActResult → Said
statement_says k x = record { statement = k; answer = x.answer; ended = x.ended }

-- a comparison of a cell that goes on at once: with what the cell held, or with what is assigned to the name
abbrev pub ComparesAtOnce : ℕ → TableNow ℕ → ℕ → CellName → Bool → Bool → TableNow ℕ → Type 0
ComparesAtOnce hand t k c weak true u = ByCompare ℕ field_0 (hand + 1) k t u c weak
ComparesAtOnce hand t k c weak false u = ByDiffering ℕ field_0 (hand + 1) k t u c weak

abbrev pub IsCompared : ℕ → TableNow ℕ → ℕ → CellName → Bool → Bool → TableNow ℕ → Type 0
IsCompared hand t k c weak swapped u = (idle (act.Compare k c weak) (thread_slots hand t) true ≡ false)
    × ComparesAtOnce hand t k c weak swapped u

-- by these tasks of statement k, with nothing left to end before, a thread goes on and says this
pub record IsOnward (hand k : ℕ) (t : TableNow ℕ) (taken : Bool) (ts : List Task) (takes : Bool) (lines : List Said)
    (u : TableNow ℕ) : Type 0 where
  pub endings : List Ending
  pub piled : Piled k u.endings endings
  pub goes : (todo : List Task) (log : List Said)
      → TakesThread field_0 t.desk (frame_settled (thread_slots hand t) taken [] (ts ++ todo)) log u.desk
      (frame_settled (thread_slots hand u) takes endings todo) (log ++ lines)

-- what was left to end by statement k has ended
abbrev pub IsSettledBy : ℕ → ℕ → Bool → TableNow ℕ → List Said → TableNow ℕ → List Said → Type 0
IsSettledBy hand k taken t log u lines =
    (es : List Ending) → Piled k t.endings es → (todo : List Task)
    → TakesThread field_0 t.desk (frame_settled (thread_slots hand t) taken es todo) log u.desk
    (frame_settled (thread_slots hand u) taken [] todo) lines

-- or some of it: it goes on with what is left
abbrev pub IsPartlySettled : ℕ → ℕ → Bool → TableNow ℕ → List Said → TableNow ℕ
    → List Said → Type 0
IsPartlySettled hand k taken t log u lines =
    (es : List Ending) → Piled k t.endings es → (fs : List Ending) × Piled k u.endings fs × ((todo : List Task)
    → TakesThread field_0 t.desk (frame_settled (thread_slots hand t) taken es todo) log u.desk
    (frame_settled (thread_slots hand u) taken fs todo) lines)

-- by its next tasks the thread goes on, with nothing left to end
abbrev pub GoesOnWith : ℕ → TableNow ℕ → Bool → List Task → List Said
    → TableNow ℕ → Bool → List Task → List Said → Type 0
GoesOnWith hand t taken todo log u takes rest lines =
    TakesThread field_0 t.desk (frame_settled (thread_slots hand t) taken [] todo) log u.desk
    (frame_settled (thread_slots hand u) takes [] rest) lines
