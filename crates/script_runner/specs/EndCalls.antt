-- How a thread goes on while objects end that its table was left to end, one on top of the other. All of it is own.
use Rattle.std.specs.Prelude.{length, ◌≡◌, ℕ, Bool, List, [], ◌∷◌, ◌++◌}
use Rattle.std.specs.Prelude.{Some, None}
use Rattle.control_block.specs.Desks.{IsEnding, DeskNow, object_in}
use Rattle.control_block.specs.Standing.{Standing}
use Rattle.script_runner.specs.Ends.{IsMadeAs}
use Rattle.script_runner.specs.Tables.{HasScriptMembers, TableNow}
use Rattle.script_runner.specs.declared.table.ends.Remains.TheVariants as table
use Rattle.script_runner.specs.declared.table.ends.Remains.{Remains}
use Rattle.script_runner.specs.Logs.{TellsThread}
use Rattle.script_runner.specs.Seats.{IsHand, shown_slots}
use Rattle.shared_handle.specs.Piles.{AllEnd, IsRound}
use Rattle.shared_handle.specs.declared.endings.Ending as pile
use Rattle.shared_handle.specs.declared.pile.Gone.TheVariants as gone
use Rattle.shared_handle.specs.declared.pile.Round.TheVariants.{Cleared}
use Rattle.shared_handle.specs.declared.pile.Round.{Round}
use Rattle.step_table.specs.AtomicSteps.{remains}
use Rattle.step_table.specs.declared.memory.ended.Ended.TheVariants as ended
use Rattle.step_table.specs.declared.memory.ended.Ended.{Ended as EndedAs}
use Rattle.step_table.specs.declared.memory.form.Form.{Form}
use Rattle.step_threads.specs.Frames.{FrameView, frame_settled}
use Rattle.step_threads.specs.Programs.{Part}
use Rattle.step_threads.specs.declared.programs.act.Task.{Task}
use Rattle.step_threads.specs.declared.ending.Ending.{Ending}
use Rattle.step_threads.specs.declared.said.Said.{Said}

-- what a table tells that an object was made as, as a thread says it; an object has four fields
abbrev pub remains_ended : Remains → EndedAs
remains_ended table.Null = ended.Null
remains_ended (table.Fields fields) = ended.Fields fields

abbrev pub IsFour : Remains → Type 0
IsFour table.Null = Unit {0}
IsFour (table.Fields fields) = length fields ≡ 4

module _ {V : Type 0} where
  -- what a table was left to end by statement k, as a thread has it: the last one first, each with as many members
  -- cleared
  abbrev pub Piled : ℕ → List (pile.Ending V) → List Ending → Type 0
  Piled k xs [] = xs ≡ []
  Piled k xs (e ∷ es) = (below : List (pile.Ending V)) × (top : pile.Ending V) × (xs ≡ below ++ top ∷ [])
      × (e.block ≡ top.block) × (e.statement ≡ k) × (top.cleared ≡ e.stage) × Piled k below es

  -- what a desk does takes its thread from one act to another, and adds lines
  abbrev pub TakesThread : (Form → V) → DeskNow V → FrameView → List Said → DeskNow V → FrameView
      → List Said → Type 0
  TakesThread worth d w log e u lines =
      (part : Part) (n : ℕ) → TellsThread worth part n d w log → TellsThread worth part n e u lines

  -- what is told of a round: of an object that is left to end, what it was made as
  abbrev pub RoundSays : ℕ → DeskNow V → List (pile.Ending V) → Round V → List Said → Type 0
  RoundSays k d xs (Cleared m gone.Last) log =
      (below : List (pile.Ending V)) × (x : pile.Ending V) × (xs ≡ below ++ x ∷ [])
      × (log ≡ record { statement = k; answer = None; ended = Some (remains (object_in d x.block.0)) } ∷ [])
  RoundSays k d xs _ log = log ≡ []

  -- by a round of what a table was left to end by statement k its thread goes on, whatever is in hand and whatever
  -- tasks come after it
  pub record GoesByRound (worth : Form → V) (m k : ℕ) (t u : TableNow V) (round : Round V)
      (es : List Ending) : Type 0 where
    pub endings : List Ending
    pub piled : Piled k u.endings endings
    pub lines : List Said
    pub says : RoundSays k u.desk u.endings round lines
    pub takes : (taken : Bool) (todo : List Task) (log : List Said)
        → TakesThread worth t.desk (frame_settled (shown_slots m t.slots) taken es todo) log u.desk
        (frame_settled (shown_slots m u.slots) taken endings todo) (log ++ lines)

module _ (V : Type 0) where
  abbrev pub RoundsIn : Type 0
  RoundsIn =
      (worth : Form → V) (m hand k : ℕ) (t u : TableNow V) → IsHand m hand t → u.slots ≡ t.slots
      → HasScriptMembers t.desk.shape → AllEnd t.desk t.endings
      → (round : Round V) → IsRound t.desk t.endings round u.desk u.endings
      → (es : List Ending) → Piled k t.endings es
      → GoesByRound worth m k t u round es

  -- what the table tells of an object that ends in its desk's hands is what a thread says
  abbrev pub RemainsIn : Type 0
  RemainsIn =
      (d : DeskNow V) (b : ℕ) (x : V) (r : Remains) → Standing d → IsEnding d b x → IsFour r
      → IsMadeAs (object_in d b) r → remains_ended r ≡ remains (object_in d b)
