-- Which acts of a run are drawn, and as which rows. All of it is own.
use Rattle.std.specs.Prelude.{◌≡◌, ℕ, ◌+◌, ◌++◌, All, cond, List, [], ◌∷◌, codes, decimal, map}
use Rattle.std.specs.Prelude.{String, string_bytes}
use Rattle.std.specs.Global.{Global}
use Rattle.control_word.specs.State.{State}
use Rattle.run_picture.specs.declared.picture.Change.{Change}
use Rattle.run_picture.specs.declared.picture.Row.{Row}
use Rattle.script_picture.specs.declared.part.Part.{Part}
use Rattle.script_picture.specs.Parts.{is_in}
use Rattle.script_picture.specs.Pointers.{pointers_after}
use Rattle.script_stepper.specs.Lines.{item_lines, statement_text}
use Rattle.script_text.specs.Traces.{Item}
use Rattle.step_core.specs.Totals.{census_of}
use Rattle.step_threads.specs.AbstractStates.{AbstractState, state_in}

-- an act: what its thread said, and how all was after it
pub record Seen : Type 0 where
  pub item : Item
  pub after : AbstractState

abbrev pub seen_in : AbstractState → Item → Seen
seen_in after item = record { item = item; after = after }

-- an act, and its number in the run, from 1
abbrev pub Numbered : Type 0
Numbered = ℕ × Seen

-- the acts of a part, each once and in their order, where the first of these has this number
abbrev pub acts_in : Part → ℕ → List Seen → List Numbered
acts_in part number [] = []
acts_in part number (x ∷ seen) =
    cond (is_in part number) ((number, x) ∷ []) [] ++ acts_in part (number + 1) seen

-- the counts that are told of a block are those of the handles on it in this state
-- ([util.smartptr.shared.obs], and own)
abbrev pub TellsCounts : State → Change → Type 0
TellsCounts state change = change.counts ≡ census_of state change.block

-- a thread, and a statement of it or its end
abbrev pub place_start : ℕ → ℕ → List ℕ
place_start thread statement = decimal thread ++ codes "." ++ statement_text statement

abbrev pub bytes_of : String Global → List ℕ
bytes_of line = string_bytes line

-- a text goes on with these bytes, and perhaps more
abbrev pub GoesOnWith : List ℕ → List ℕ → List ℕ → Type 0
GoesOnWith begun old new = (more : List ℕ) × (new ≡ old ++ (begun ++ more))

-- a row is that of an act: it has its number and its thread, its statement, and the lines that it
-- said; the counts that it tells are those after the act; and it has just the pointers that its
-- thread and the cells have then
pub record IsRow (act : Numbered) (row : Row) : Type 0 where
  pub number : row.number ≡ act.0
  pub thread : row.thread ≡ act.1.item.0
  pub statement :
      let item = act.1.item in
      GoesOnWith (place_start item.0 item.1.statement) [] (string_bytes row.statement)
  pub lines : map bytes_of row.lines.items ≡ item_lines act.1.item
  pub counts : All (TellsCounts (state_in act.1.after)) row.changes.items
  pub pointers : row.pointers.items ≡ pointers_after act.1.after act.1.item.0

-- a row for each of these acts, in order
abbrev pub AreRows : List Numbered → List Row → Type 0
AreRows [] [] = Unit {0}
AreRows [] (row ∷ rows) = ⊥
AreRows (act ∷ acts) [] = ⊥
AreRows (act ∷ acts) (row ∷ rows) = IsRow act row × AreRows acts rows
