-- What a world shows between any two steps. All of it is own.
use Rattle.std.specs.Prelude.{ℕ, ◌-◌, ◌==◌, ◌&&◌, ◌||◌, Bool, false, cond, List, [], ◌∷◌, Option, Some, None}
use Rattle.std.specs.Prelude.{nat_lt, sum_by}
use Rattle.std.specs.List.{list_any}
use Rattle.control_word.specs.declared.packed.counts.Counts.{Counts}
use Rattle.control_word.specs.declared.model.handle.Kind.{Kind}
use Rattle.control_word.specs.declared.packed.cell.CellWord.{CellWord}
use Rattle.control_word.specs.Handles.{same_kind}
use Rattle.control_word.specs.State.{State}
use Rattle.step_table.specs.CellAtomicSteps.{kind_in_state}
use Rattle.step_table.specs.declared.cell_steps.refill.Stage.TheVariants.{Turning}
use Rattle.step_threads.specs.declared.ending.Ending.{Ending}
use Rattle.step_threads.specs.declared.pending_call.PendingCall.{PendingCall}
use Rattle.step_threads.specs.declared.pending_call.PendingCall.TheVariants.{Making, Refill}
use Rattle.step_threads.specs.declared.programs.act.Act.{Act}
use Rattle.step_threads.specs.declared.programs.act.Task.{Task}
use Rattle.step_threads.specs.Frames.{FrameView}

-- what a cell's word tells is a handle on this block
abbrev pub is_on_block : ℕ → CellWord → Bool
is_on_block b x = elim (x.owned) [ None ↦ false | Some c ↦ c.0 == b ]

-- a load of a handle of this kind on a block is under way: the block's number hasn't the handle yet
abbrev pub is_load_on : State → ℕ → Kind → PendingCall → Bool
is_load_on s b k (Refill Turning c x n) = is_on_block b x && same_kind (kind_in_state s c) k
is_load_on s b k _ = false

abbrev pub loads_on : State → ℕ → Kind → List PendingCall → ℕ
loads_on s b k pending_calls = sum_by (λ (h : PendingCall). cond (is_load_on s b k h) 1 0) pending_calls

-- an object is being made in a block: the block's weak number has 1 for it already
abbrev pub is_make_in : ℕ → PendingCall → Bool
is_make_in b (Making c i differs) = c.0 == b
is_make_in b _ = false

abbrev pub makes_in : ℕ → List PendingCall → ℕ
makes_in b pending_calls = sum_by (λ (h : PendingCall). cond (is_make_in b h) 1 0) pending_calls

-- the act of the next task, if there is one
abbrev pub first_act : List Task → Option Act
first_act [] = None
first_act (t ∷ ts) = Some t.act

-- one of these endings, or one of these threads', is of the object in a block
abbrev pub is_ending_in : ℕ → List Ending → Bool
is_ending_in b es = list_any (λ (e : Ending). e.block.0 == b) es

abbrev pub ends_in : ℕ → List FrameView → Bool
ends_in b frame_views = list_any (λ (w : FrameView). is_ending_in b w.endings) frame_views

-- what a block's two numbers say: its owners have one weak handle in common while there are some, or the object ends
abbrev pub counts_by : ℕ → ℕ → Bool → Option Counts
counts_by owners number ends =
    cond (number == 0) None
    (Some (record { owners = owners; weaks = number - cond (nat_lt 0 owners || ends) 1 0 }))
