-- How many steps a world has left at most. All of it is own.
use Rattle.std.specs.Prelude.{ℕ, ◌+◌, ◌-◌, ◌*◌, ◌==◌, Bool, false, cond, List, [], ◌∷◌, sum_by}
use Rattle.step_threads.specs.declared.programs.act.Act.{Act}
use Rattle.step_threads.specs.declared.programs.act.Act.TheVariants.{Make, Swap, Exchange, Load, Compare}
use Rattle.step_threads.specs.declared.programs.act.Task.{Task}
use Rattle.step_threads.specs.declared.ending.Ending.{Ending}
use Rattle.step_threads.specs.declared.pending_call.PendingCall.{PendingCall}
use Rattle.step_threads.specs.declared.pending_call.PendingCall.TheVariants.{Rest, Making, Locking, Giving, Brought}
use Rattle.step_threads.specs.declared.pending_call.PendingCall.TheVariants.{Saw, Matched}
use Rattle.step_threads.specs.declared.pending_call.PendingCall.TheVariants.{Refill, Returning, Clearing}
use Rattle.step_table.specs.declared.cell_steps.refill.Stage.{Stage}
use Rattle.step_table.specs.declared.cell_steps.refill.Stage.TheVariants.{Turning, Checking, Lacking, Refilling}
use Rattle.step_table.specs.declared.cell_steps.refill.Stage.TheVariants.{Failing}
use Rattle.step_threads.specs.declared.thread.Thread.{Thread}
use Rattle.control_word.specs.declared.packed.cell.CellWord.{CellWord}
use Rattle.control_word.specs.Packing.{cell_bits}
use Rattle.step_table.specs.Cells.{word_of_cell}
use Rattle.step_threads.specs.Frames.{FrameView, cell_of_name, hand, locked_pointer, todo}
use Rattle.step_table.specs.AtomicSteps.{owner_word, on}
use Rattle.step_table.specs.Registers.{Slots, is_full, slot_pointer}
use Rattle.step_table.specs.GhostStates.{GhostState, model_state}
use Rattle.step_core.specs.Totals.{ended_in, made_in}
use Rattle.step_core.specs.Worlds.{WorldState}
use Rattle.step_threads.specs.Endings.{ending_steps}

-- What a task has for its steps. A make prepares its block, looks at five words and writes them, and claims; and its
-- object may end, which takes 13 steps. A swap brings funds, swaps, and gives funds back. A load takes a fund, turns
-- it, and may put back those that were taken, and so does a compare that differs. Any other act takes two at most
abbrev pub weight : Act → ℕ
weight (Make form) = 28
weight (Swap c) = 3
weight (Exchange k c) = 3
weight (Load c) = 7
weight (Compare k c weak) = 7
weight _ = 2

-- What a pending call has to spare, whatever others do: a thread at rest has 15, which what it begins uses up. A lock
-- that is tried keeps them all: where others changed its word it may have to begin again, and so may a cell that is
-- tried. One that was loaded has the steps of its act beside
abbrev pub spare : PendingCall → ℕ
spare Rest = 15
spare (Making b i differs) = 2 * (5 - i) + cond differs 1 2
spare (Locking word) = 15
spare (Giving i kind x) = 14
spare Brought = 15
spare (Saw x) = 15
spare (Matched x) = 15
spare (Refill stage c x k) = 22
spare (Returning kind b funds k) = 15
spare Clearing = 14

-- what came out of a member has to leave
abbrev pub carried : List Ending → Slots → ℕ
carried [] slots = 0
carried (e ∷ es) slots = cond (is_full (slot_pointer slots (hand slots))) 1 0

-- the steps that a thread's tasks and endings have left
abbrev pub task_steps : List Task → ℕ
task_steps ts = sum_by (λ (t : Task). weight t.act) ts

abbrev pub frame_steps : FrameView → ℕ
frame_steps w = task_steps w.todo + sum_by ending_steps w.endings + carried w.endings w.slots

-- those that a thread has left, but for what came out of a member
abbrev pub steps_of : Thread → ℕ
steps_of t = task_steps (todo t.frame) + sum_by ending_steps t.frame.endings.list

abbrev pub left_to_do : List FrameView → ℕ
left_to_do frame_views = sum_by frame_steps frame_views

-- the word that counts the owners of what the next act locks
abbrev pub lock_word : GhostState → Slots → List Task → ℕ
lock_word v slots [] = 0
lock_word v slots (t ∷ ts) = on (owner_word v) 0 (locked_pointer slots t.act)

-- the cell of the next act, where it is one that is looked at first, shows this
abbrev pub shows_on : GhostState → Slots → CellWord → Act → Bool
shows_on v slots x (Load c) = word_of_cell v (cell_of_name (model_state v) slots c) == cell_bits x
shows_on v slots x (Compare k c weak) = word_of_cell v (cell_of_name (model_state v) slots c) == cell_bits x
shows_on v slots x _ = false

abbrev pub shows_next : GhostState → Slots → CellWord → List Task → Bool
shows_next v slots x [] = false
shows_next v slots x (t ∷ ts) = shows_on v slots x t.act

-- the steps of a refill, by how far it is and whether the cell shows what is to be refilled
abbrev pub refill_steps : Bool → Stage → ℕ
refill_steps shows Turning = 19
refill_steps shows Checking = 18
refill_steps shows Lacking = cond shows 17 21
refill_steps shows Refilling = cond shows 16 20
refill_steps shows Failing = 19

-- What a half-done act has to spare where its thread runs alone. What was looked at and is still so is done next, and
-- else the act begins again first. A swap and a load take the steps of their funds from their task
abbrev pub alone : GhostState → FrameView → PendingCall → ℕ
alone v w Rest = spare Rest
alone v w (Making b i differs) = spare (Making b i differs)
alone v w (Locking word) = cond (lock_word v w.slots w.todo == word) 14 16
alone v w (Giving i kind x) = spare (Giving i kind x)
alone v w Brought = 14
alone v w (Saw x) = cond (shows_next v w.slots x w.todo) 14 18
alone v w (Matched x) = cond (shows_next v w.slots x w.todo) 13 17
alone v w (Refill stage c x k) = refill_steps (word_of_cell v c == cell_bits x) stage
alone v w (Returning kind b funds k) = 16
alone v w Clearing = spare Clearing

-- the objects whose last owner hasn't left: each may have to end
abbrev pub living : WorldState → ℕ
living u = made_in u.ghost_state.history - ended_in u.ghost_state.history

abbrev pub most_steps : WorldState → ℕ
most_steps u = left_to_do u.frame_views + sum_by spare u.pending_calls + 13 * living u
