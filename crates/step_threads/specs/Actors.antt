-- What a thread of the machine has, and how it fits the table. All of it is own.
use Rattle.std.specs.Prelude.{◌≡◌, ℕ, ◌+◌, ◌<◌, ◌≤◌, ◌==◌, true, cond, List, ◌∷◌}
use Rattle.std.specs.Prelude.{length, get_or, sum_by, Option, Some}
use Rattle.std.specs.List.{filter}
use Rattle.control_word.specs.declared.place.Block.{Block}
use Rattle.control_word.specs.declared.model.view.Pending.TheVariants.{Idle}
use Rattle.control_word.specs.State.{Has, State, held, same_stored, stored}
use Rattle.control_word.specs.declared.place.Place.{Place}
use Rattle.step_threads.specs.declared.programs.act.Act.{Act}
use Rattle.step_table.specs.declared.memory.form.Form.{Form}
use Rattle.control_word.specs.Words.{flags_of}
use Rattle.step_threads.specs.declared.pending_call.PendingCall.{PendingCall}
use Rattle.step_threads.specs.declared.pending_call.PendingCall.TheVariants.{Rest, Making, Locking, Giving, Brought}
use Rattle.step_threads.specs.declared.pending_call.PendingCall.TheVariants.{Saw, Matched}
use Rattle.step_threads.specs.declared.pending_call.PendingCall.TheVariants.{Refill, Returning, Clearing}
use Rattle.control_word.specs.declared.handle.Handle.{Handle}
use Rattle.step_table.specs.CellAtomicSteps.{owing_funds}
use Rattle.step_table.specs.Contents.{owing_for}
use Rattle.step_threads.specs.Frames.{form_of, new_of}
use Rattle.step_table.specs.AtomicSteps.{is_enabled}
use Rattle.step_table.specs.Registers.{Slots}
use Rattle.step_threads.specs.Entries.{least}
use Rattle.control_word.specs.Packing.{IsCellWord}
use Rattle.step_table.specs.Refills.{RefillFits}
use Rattle.step_table.specs.GhostStates.{IsMaking, GhostState, handle_in_block, known_words, pending, model_state}

-- how often the desk has the block in its store, and how often a list has it
abbrev pub in_store : State → ℕ → ℕ → ℕ
in_store s d b = length (filter (same_stored (stored d b)) s.stores)

abbrev pub in_list : ℕ → List ℕ → ℕ
in_list b l = sum_by (λ c. cond (c == b) 1 0) l

-- the block that a making took out of the stock
abbrev pub claimed : PendingCall → ℕ → ℕ
claimed Rest b = 0
claimed (Making c i differs) b = cond (c.0 == b) 1 0
claimed (Locking found) b = 0
claimed (Giving i kind x) b = 0
claimed Brought b = 0
claimed (Saw x) b = 0
claimed (Matched x) b = 0
claimed (Refill stage c x k) b = 0
claimed (Returning kind c funds k) b = 0
claimed Clearing b = 0

-- The stock has just the desk's vacant blocks, but for the one that a making took
pub record Stocks (d : ℕ) (blocks : List ℕ) (room : ℕ) (pending_call : PendingCall) (v : GhostState) : Type 0 where
  pub stocked : (b : ℕ) → in_store (model_state v) d b ≡ in_list b blocks + claimed pending_call b
  pub roomy : v.extent.shape.blocks ≤ room

-- what a make wants its block's loose words to be: the flags and the fields
abbrev pub wanted : Form → List ℕ
wanted form = flags_of form.enabled form.null ∷ form.fields

-- the block is the least of the store, and the words before are as they are wanted
pub record IsPreparedSoFar (d : ℕ) (b : Block) (at : ℕ) (form : Form) (v : GhostState) : Type 0 where
  pub making : IsMaking v d b
  pub within : at ≤ 5
  pub least : least d (model_state v).stores ≡ Some b.0
  pub done : (j : ℕ) → j < at → get_or (known_words (pending v d)) j 0 ≡ get_or (wanted form) j 0

-- the desk has a pointer whose object gives pointers to itself
pub record IsGiving (d : ℕ) (x : Handle) (v : GhostState) : Type 0 where
  pub idle : pending v d ≡ Idle
  pub has : Has (held d (handle_in_block v x.kind x.block x.place)) (model_state v).hands
  pub enabled : is_enabled (model_state v) x ≡ true

-- what is half done of an act, with this in the slots, is as the desk's view says
abbrev pub PendingCallFits : ℕ → PendingCall → Slots → Act → GhostState → Type 0
PendingCallFits d Rest slots a v = pending v d ≡ Idle
PendingCallFits d (Making b i differs) slots a v = IsPreparedSoFar d b i (form_of a) v
PendingCallFits d (Locking found) slots a v = (pending v d ≡ Idle) × (0 < found)
PendingCallFits d (Giving i kind x) slots a v = IsGiving d x v
PendingCallFits d Brought slots a v = pending v d ≡ owing_for (model_state v) (new_of slots a) 256
PendingCallFits d (Saw x) slots a v = (pending v d ≡ Idle) × IsCellWord x
PendingCallFits d (Matched x) slots a v = (pending v d ≡ owing_for (model_state v) (new_of slots a) 256) × IsCellWord x
PendingCallFits d (Refill stage c x k) slots a v = RefillFits d stage c x v
PendingCallFits d Clearing slots a v = pending v d ≡ Idle
PendingCallFits d (Returning kind b funds k) slots a v = (p : Option Place)
    × (pending v d ≡ owing_funds (model_state v) kind (Some b) p funds 0)
