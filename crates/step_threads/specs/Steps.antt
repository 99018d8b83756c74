-- The steps that acts are made of, each by itself. All of it is own.
use Rattle.std.specs.Prelude.{ℕ, ◌+◌, ◌-◌, ◌==◌, Bool, true, false, cond, List, ◌∷◌, slice_set}
use Rattle.std.specs.Prelude.{is_some, Option, Some, None}
use Rattle.control_word.specs.declared.packed.cell.CellWord.{CellWord}
use Rattle.control_word.specs.declared.place.Block.{Block}
use Rattle.control_word.specs.State.{kind_of_member, weak}
use Rattle.control_word.specs.declared.model.handle.Kind.{Kind}
use Rattle.step_threads.specs.declared.programs.act.Act.{Act}
use Rattle.step_table.specs.declared.memory.form.Form.{Form}
use Rattle.step_threads.specs.declared.programs.act.Act.TheVariants.{FromThis, Make}
use Rattle.step_threads.specs.declared.programs.act.Task.{Task}
use Rattle.step_threads.specs.declared.programs.call.CellName.{CellName}
use Rattle.step_table.specs.declared.cell_steps.cell_step.CellStep.TheVariants as cell_step
use Rattle.step_threads.specs.declared.ending.Ending.{Ending}
use Rattle.step_threads.specs.declared.pending_call.PendingCall.{PendingCall}
use Rattle.step_threads.specs.declared.pending_call.PendingCall.TheVariants.{Rest, Making, Locking, Giving, Brought}
use Rattle.step_threads.specs.declared.pending_call.PendingCall.TheVariants.{Saw, Matched}
use Rattle.step_threads.specs.declared.pending_call.PendingCall.TheVariants.{Refill, Returning, Clearing}
use Rattle.control_word.specs.declared.handle.Handle.{Handle}
use Rattle.step_table.specs.declared.memory.ghost_history.AtomicStep.{AtomicStep}
use Rattle.step_table.specs.declared.memory.ghost_history.AtomicStep.TheVariants as atomic_step
use Rattle.step_threads.specs.declared.said.Said.{Said}
use Rattle.step_threads.specs.Programs.{kind_at}
use Rattle.step_threads.specs.Frames.{FrameView, cell_of_name, hand, frame_settled}
use Rattle.control_word.specs.Packing.{cell_bits}
use Rattle.control_word.specs.declared.site.Site.{Site}
use Rattle.control_word.specs.declared.site.Site.TheVariants.{Member}
use Rattle.step_table.specs.declared.cell_steps.cell_step.Compared.{Compared}
use Rattle.step_table.specs.declared.cell_steps.refill.Stage.{Stage}
use Rattle.step_table.specs.declared.cell_steps.refill.Stage.TheVariants.{Turning, Checking, Lacking, Refilling}
use Rattle.step_table.specs.declared.cell_steps.refill.Stage.TheVariants.{Failing}
use Rattle.step_table.specs.CellAtomicSteps.{kind_in_state}
use Rattle.step_table.specs.Cells.{word_of_cell}
use Rattle.step_table.specs.Contents.{as_word, held_in, is_spent, same_value, seen, slot_of}
use Rattle.step_table.specs.Refills.{is_drained, is_low, more_taken}
use Rattle.step_table.specs.AtomicSteps.{by_word, is_enabled, lock, owner_word, on}
use Rattle.step_threads.specs.Endings.{staged}
use Rattle.step_table.specs.Registers.{slot_pointer, slot_value}
use Rattle.step_threads.specs.Rows.{Found, full_answer, row, said_by_row, frame_after_act}
use Rattle.step_threads.specs.AbstractStates.{row_in, went}
use Rattle.step_table.specs.GhostStates.{GhostState, object_of_block, model_state}

-- what a step does to the table, if anything; what the thread has begun and not ended after it; where it is then; what
-- it says
pub record Step : Type 0 where
  pub atomic_step : Option AtomicStep
  pub pending_call : PendingCall
  pub frame_view : FrameView
  pub said : Said

abbrev pub silent : ℕ → Said
silent k = record { statement = k; answer = None; ended = None }

-- an act of statement k on what a slot holds: a count tells what the word does
abbrev pub step_of_act : GhostState → ℕ → FrameView → ℕ → List Task → Act → Option AtomicStep → PendingCall → Step
step_of_act v d w k ts a x h =
    record {
      atomic_step = x;
      pending_call = h;
      frame_view = went (model_state v) d w k ts a;
      said = said_by_row k (row_in (by_word v) (model_state v) d w.slots w.taken a);
    }

-- a step on the way of statement k, which says nothing: what it does, and what is begun after it
abbrev pub within : FrameView → ℕ → Option AtomicStep → PendingCall → Step
within w k x h = record { atomic_step = x; pending_call = h; frame_view = w; said = silent k }

-- a make begins in the least block of the store; it is refused where there is none
abbrev pub begins : FrameView → ℕ → List Task → Option ℕ → Step
begins w k ts None =
    record {
      atomic_step = None;
      pending_call = Rest;
      frame_view = frame_settled w.slots false w.endings ts;
      said = record { statement = k; answer = full_answer None; ended = None };
    }
begins w k ts (Some b) =
    let block : Block = record { 0 = b } in
    record {
      atomic_step = Some (atomic_step.Prepare block);
      pending_call = Making block 0 false;
      frame_view = w;
      said =
          silent k;
    }

-- a lock is tried, where the word that it found isn't 0: nothing is done yet
abbrev pub trying : FrameView → ℕ → ℕ → Step
trying w k word = record
    { atomic_step = None; pending_call = cond (word == 0) Rest (Locking word); frame_view = w; said = silent k }

-- a lock looks first. Where it finds 0 no owner is left, and that is the whole of it
abbrev pub looks : GhostState → ℕ → FrameView → ℕ → List Task → Act → Handle → Step
looks v d w k ts a x = cond (owner_word v x == 0) (step_of_act v d w k ts a (Some (lock (model_state v) x)) Rest)
    (trying w k (owner_word v x))

-- then it is tried with the word that it found, and goes on with the word that it finds where that is another
abbrev pub tries : GhostState → ℕ → FrameView → ℕ → List Task → Act → ℕ → Handle → Step
tries v d w k ts a word x =
    cond (owner_word v x == word) (step_of_act v d w k ts a (Some (lock (model_state v) x)) Rest)
    (trying w k (owner_word v x))

-- an owner's object is asked for a pointer: a look tells whether it gives any, and then the pointer is taken
abbrev pub asks : GhostState → ℕ → FrameView → ℕ → List Task → ℕ → Kind → Handle → Step
asks v d w k ts i kind x =
    cond (is_enabled (model_state v) x)
    (record { atomic_step = None; pending_call = Giving i kind x; frame_view = w; said = silent k })
    (step_of_act v d w k ts (FromThis i kind) None Rest)

-- a pointer's funds are brought for a cell, and the swap is next
abbrev pub brings : FrameView → ℕ → Handle → Step
brings w k x = record {
  atomic_step = Some (atomic_step.OnCell (cell_step.Bring x.kind x.block x.place 256));
  pending_call = Brought;
  frame_view = w;
  said = silent k;
}

-- of what came out of a cell the funds that were not taken are given back, where it has an object
abbrev pub gives_back : Kind → ℕ → CellWord → Option Block → PendingCall
gives_back kind k x None = Rest
gives_back kind k x (Some b) = Returning kind b (256 - x.taken) k

-- a slot's value goes into a cell, and what that held comes out
abbrev pub step_of_swap : GhostState → ℕ → FrameView → ℕ → List Task → Act → CellName → ℕ → Step
step_of_swap v d w k ts a c i =
    let x = cell_of_name (model_state v) w.slots c in
    let found = seen v x in
    step_of_act v d w k ts a (Some (atomic_step.OnCell (cell_step.Swap x (as_word (slot_value w.slots i)) found)))
    (gives_back (kind_at c) k found found.owned)

-- where the value has an object its funds are brought first
abbrev pub sends : GhostState → ℕ → FrameView → ℕ → List Task → Act → CellName → ℕ → Step
sends v d w k ts a c i = on (brings w k) (step_of_swap v d w k ts a c i) (slot_pointer w.slots i)

-- a cell was looked at: it is tried next with what it was seen to hold, which has an object. Where all of its funds
-- were taken nothing is done, and without an object that is the whole of it
abbrev pub step_of_look : GhostState → ℕ → FrameView → ℕ → List Task → Act → Site
    → Option Compared → CellWord → Step
step_of_look v d w k ts a c y x =
    cond (is_spent x) (within w k None Rest)
    (cond (is_some x.owned) (within w k None (Saw x))
    (step_of_act v d w k ts a (Some (atomic_step.OnCell (cell_step.Look c x y))) Rest))

-- a fund of a cell is taken, where it shows the same still; else the act begins again
abbrev pub takes : GhostState → ℕ → FrameView → ℕ → List Task → Act → Site
    → Option Compared → CellWord → Step
takes v d w k ts a c y x =
    cond (word_of_cell v c == cell_bits x)
    (step_of_act v d w k ts a (Some (atomic_step.OnCell (cell_step.Take c x y))) (Refill Turning c (more_taken x) k))
    (within w k None Rest)

-- a compare looks at its cell: one that holds what is expected is tried next, and one that differs is as one that is
-- loaded
abbrev pub step_of_compare : GhostState → ℕ → FrameView → ℕ → List Task → Act → Site → Compared
    → CellWord → Step
step_of_compare v d w k ts a c y x =
    cond (same_value x y.expected) (within w k None (Saw x)) (step_of_look v d w k ts a c (Some y) x)

-- what was brought for a value is given back, where it has an object
abbrev pub missed : ℕ → Option Handle → PendingCall
missed k None = Rest
missed k (Some x) = Returning x.kind x.block 256 k

-- a cell that holds what is expected is swapped, where it shows the same still; else what was brought is given back,
-- and the act begins again
abbrev pub matches : GhostState → ℕ → FrameView → ℕ → List Task → Act → Site → Compared → CellWord → Step
matches v d w k ts a c y x =
    cond (word_of_cell v c == cell_bits x)
    (step_of_act v d w k ts a (Some (atomic_step.OnCell (cell_step.CompareSwap c x y)))
    (gives_back (kind_in_state (model_state v) c) k x x.owned))
    (within w k None (missed k (slot_pointer w.slots (hand w.slots))))

-- the funds of what is to go in are brought, where it has an object, and then the cell is swapped
abbrev pub fetches : FrameView → ℕ → CellWord → Handle → Step
fetches w k x p = within w k (Some (atomic_step.OnCell (cell_step.Bring p.kind p.block p.place 256))) (Matched x)

-- a compare goes on that has seen this
abbrev pub settles : GhostState → ℕ → FrameView → ℕ → List Task → Act → Site → Compared → CellWord → Step
settles v d w k ts a c y x =
    cond (same_value x y.expected)
    (on (fetches w k x) (matches v d w k ts a c y x) (slot_pointer w.slots (hand w.slots)))
    (takes v d w k ts a c (Some y) x)

-- the next step of a thread that took a fund of a cell, whose value had an object in this block. The fund becomes a
-- handle. Where many were taken, as many are brought while the cell holds the value, and put in their place; where the
-- cell shows something else by then they are given back, and it is looked at again
abbrev pub refills_on : GhostState → FrameView → Stage → Site → CellWord → ℕ → Block → Step
refills_on v w Turning c x k b =
    within w k (Some (atomic_step.OnCell (cell_step.Turn (kind_in_state (model_state v) c) b)))
    (cond (is_low x) (Refill Checking c x k) Rest)
refills_on v w Checking c x k b = within w k None (cond (is_drained x (seen v c)) (Refill Lacking c (seen v c) k) Rest)
refills_on v w Lacking c x k b =
    within w k (Some (atomic_step.OnCell (cell_step.Bring (kind_in_state (model_state v) c) b x.place x.taken)))
    (Refill Refilling c x k)
refills_on v w Refilling c x k b =
    cond (word_of_cell v c == cell_bits x) (within w k (Some (atomic_step.OnCell (cell_step.Refill c x.taken))) Rest)
    (within w k None (Refill Failing c x k))
refills_on v w Failing c x k b =
    within w k (Some (atomic_step.OnCell (cell_step.GiveBack (kind_in_state (model_state v) c) b x.taken)))
    (Refill Checking c x k)

-- funds are given back
abbrev pub returns : FrameView → Kind → Block → ℕ → ℕ → Step
returns w kind b funds k =
    record {
      atomic_step = Some (atomic_step.OnCell (cell_step.GiveBack kind b funds));
      pending_call = Rest;
      frame_view = w;
      said = silent k;
    }

-- a make looks at a word of its block, and passes on where it is as wanted; a word that differs is written
abbrev pub prepares : ℕ → ℕ → FrameView → ℕ → Block → ℕ → Bool → Step
prepares found want w k b i true =
    record {
      atomic_step = Some (atomic_step.Write b i want);
      pending_call = Making b (i + 1) false;
      frame_view = w;
      said = silent k;
    }
prepares found want w k b i false =
    record {
      atomic_step = None;
      pending_call = cond (found == want) (Making b (i + 1) false) (Making b i true);
      frame_view = w;
      said = silent k;
    }

-- the object is made: its owner comes into the hand
abbrev pub claims : FrameView → ℕ → List Task → Block → Form → Step
claims w k ts b form =
    record {
      atomic_step = Some (atomic_step.Claim b form.enabled form.null form.fields);
      pending_call = Rest;
      frame_view = frame_after_act w k ts (row (Make form) w.slots w.taken (Found (Some b.0)));
      said = silent k;
    }

abbrev pub with_endings : FrameView → List Ending → FrameView
with_endings w es = record { slots = w.slots; taken = w.taken; endings = es; todo = w.todo }

-- an object ends: its members are cleared in order, and then it is finished. A member is looked at: a word of 0 is
-- empty, and cleared by that look; one that holds something is taken out next
abbrev pub ends_on : GhostState → FrameView → Ending → List Ending → Step
ends_on v w e es =
    cond (e.stage == 3)
    (record {
      atomic_step = Some (atomic_step.Finish e.block (weak (model_state v) (object_of_block v e.block) == 0));
      pending_call = Rest;
      frame_view = with_endings w es;
      said = silent e.statement;
    })
    (cond (word_of_cell v (Member e.block e.stage) == 0)
    (within (with_endings w (staged e ∷ es)) e.statement (Some (atomic_step.Clear e.block e.stage)) Rest)
    (within w e.statement None Clearing))

-- what a member holds comes out, into the hand if it has an object, and its funds that were not taken are given back
abbrev pub empties : GhostState → FrameView → Ending → List Ending → Step
empties v w e es =
    let c = Member e.block e.stage in
    let x = seen v c in
    let slots = cond (is_some x.owned)
    (slice_set w.slots (hand w.slots) (slot_of (model_state v) (held_in (model_state v) c))) w.slots in
    within (record { slots = slots; taken = w.taken; endings = staged e ∷ es; todo = w.todo }) e.statement
    (Some (atomic_step.OnCell (cell_step.TakeOut e.block e.stage x)))
    (gives_back (kind_of_member 2 e.stage) e.statement x x.owned)
