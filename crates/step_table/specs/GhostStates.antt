-- What clauses see of a table: its words, what has happened, and what each desk knows of it. All of it is own.
use Rattle.std.specs.Prelude.{◌≡◌, ℕ, suc, ◌+◌, ◌-◌, ◌<◌, ◌≤◌, false, cond, List, []}
use Rattle.std.specs.Prelude.{◌∷◌, length, get_or, slice_index, slice_set, Option, Some, None}
use Rattle.control_word.specs.declared.model.event.Entry.{Entry}
use Rattle.control_word.specs.declared.model.event.Event.{Event}
use Rattle.control_word.specs.declared.model.event.Event.TheVariants as event
use Rattle.control_word.specs.declared.model.handle.NumberedHandle.{NumberedHandle}
use Rattle.control_word.specs.declared.model.handle.Kind.{Kind}
use Rattle.control_word.specs.declared.place.Block.{Block}
use Rattle.control_word.specs.declared.place.Place.{Place}
use Rattle.control_word.specs.declared.model.view.Pending.{Pending}
use Rattle.control_word.specs.declared.model.view.Pending.TheVariants.{Idle, Making, Paying}
use Rattle.control_word.specs.declared.model.view.View.{View}
use Rattle.control_word.specs.Handles.{empty, handle, owner, weak_of}
use Rattle.control_word.specs.Histories.{entry, leads}
use Rattle.control_word.specs.Layout.{spot}
use Rattle.control_word.specs.State.{State, kind_of_member}
use Rattle.control_word.specs.Steps.{known_of}
use Rattle.control_word.specs.Views.{Stands, sees_as, used_up}
use Rattle.step_table.specs.declared.memory.extent.Extent.{Extent}
use Rattle.step_table.specs.declared.memory.ghost_history.AtomicStep.{AtomicStep}
use Rattle.step_table.specs.declared.memory.ghost_history.AtomicStep.TheVariants.{Prepare, Write, Claim, Share}
use Rattle.step_table.specs.declared.memory.ghost_history.AtomicStep.TheVariants.{WeakShare, Leave}
use Rattle.step_table.specs.declared.memory.ghost_history.AtomicStep.TheVariants.{WeakLeave}
use Rattle.step_table.specs.declared.memory.ghost_history.AtomicStep.TheVariants.{Lock, Count, Expired, Read, Clear}
use Rattle.step_table.specs.declared.memory.ghost_history.AtomicStep.TheVariants.{Finish}
use Rattle.step_table.specs.declared.memory.ghost_history.AtomicStep.TheVariants.{OnShelf}
use Rattle.step_table.specs.declared.memory.ghost_history.AtomicStep.TheVariants.{OnCell}
use Rattle.step_table.specs.CellAtomicSteps.{cell_event, cell_pending, cell_words}
use Rattle.step_table.specs.ShelfAtomicSteps.{shelf_event, words_shelved}
use Rattle.step_table.specs.Openings.{IsExtent, opening, share_of}

-- objects of the machine have no value of their own
abbrev pub Nothing : Type 0
Nothing = Unit {0}

pub record GhostState : Type 0 where
  pub extent : Extent
  pub words : List ℕ
  pub views : List (View Nothing)
  pub history : List (Entry Nothing)

abbrev pub model_state : GhostState → State
model_state v = leads (opening v.extent) v.history

abbrev pub view_in : List (View Nothing) → ℕ → View Nothing
view_in views d = get_or views d used_up

-- the desk's half-done call
abbrev pub pending : GhostState → ℕ → Pending Nothing
pending v d = (view_in v.views d).pending

-- the object that a handle on this block owns: no other keeps the block
abbrev pub object_of_block : GhostState → Block → ℕ
object_of_block v b = (model_state v).latest b.0

abbrev pub owner_in : GhostState → Block → Option Place → NumberedHandle
owner_in v b p = owner (object_of_block v b) p

abbrev pub weak_in : GhostState → Block → Option Place → NumberedHandle
weak_in v b p = weak_of (object_of_block v b) p

-- the handle of either kind
abbrev pub handle_in_block : GhostState → Kind → Block → Option Place → NumberedHandle
handle_in_block v k b p = handle k (Some (object_of_block v b)) p

-- the event of an atomic step in a state; a write of a vacant block is none
abbrev pub event_of : State → AtomicStep → Option (Event Nothing)
event_of s (Prepare b) = None
event_of s (Write b j n) = None
event_of s (Claim b enabled null fields) = Some (event.Make b enabled null fields tt)
event_of s (Share b p q) = Some (event.Share (owner (s.latest b.0) p) q)
event_of s (WeakShare b p) = Some (event.WeakShare (s.latest b.0) p)
event_of s (Leave b p last) = Some (event.Leave (owner (s.latest b.0) p) last)
event_of s (WeakLeave b p vacant) = Some (event.WeakLeave (weak_of (s.latest b.0) p) vacant)
event_of s (Lock b p got) = Some (event.Lock (weak_of (s.latest b.0) p) got)
event_of s (Count k b p n) = Some (event.Count (handle k (Some (s.latest b.0)) p) n)
event_of s (Expired k b p expired) = Some (event.Expired (handle k (Some (s.latest b.0)) p) expired)
event_of s (Read b p n) = Some (event.Read (owner (s.latest b.0) p) n)
event_of s (Clear b m) = Some (event.ClearMember (s.latest b.0) m (empty (kind_of_member 2 m)))
event_of s (Finish b vacant) = Some (event.Finish (s.latest b.0) vacant tt)
event_of s (OnShelf b x) = shelf_event b x
event_of s (OnCell x) = cell_event s x

-- the words after it: one of them is written, or none
abbrev pub words_after : GhostState → AtomicStep → List ℕ
words_after v (Prepare b) = slice_set v.words (spot b.0 1) 1
words_after v (Write b j n) = slice_set v.words (spot b.0 (2 + j)) n
words_after v (Claim b enabled null fields) = slice_set v.words (spot b.0 0) 1
words_after v (Share b p q) = slice_set v.words (spot b.0 0) (suc (slice_index v.words (spot b.0 0)))
words_after v (WeakShare b p) = slice_set v.words (spot b.0 1) (suc (slice_index v.words (spot b.0 1)))
words_after v (Leave b p last) = slice_set v.words (spot b.0 0) (slice_index v.words (spot b.0 0) - 1)
words_after v (WeakLeave b p vacant) = slice_set v.words (spot b.0 1) (slice_index v.words (spot b.0 1) - 1)
words_after v (Lock b p got) =
    cond got (slice_set v.words (spot b.0 0) (suc (slice_index v.words (spot b.0 0)))) v.words
words_after v (Count k b p n) = v.words
words_after v (Expired k b p expired) = v.words
words_after v (Read b p n) = v.words
words_after v (Clear b m) = v.words
words_after v (Finish b vacant) = slice_set v.words (spot b.0 1) (slice_index v.words (spot b.0 1) - 1)
words_after v (OnShelf b x) = words_shelved (opening v.extent) v.words b x
words_after v (OnCell x) = cell_words v.extent.shape.blocks v.words x

abbrev pub known_words : Pending Nothing → List ℕ
known_words (Making b l) = l
known_words _ = []

-- the desk's half-done call after it: a make and a call on a cell take several steps
abbrev pub pending_after : GhostState → ℕ → AtomicStep → Pending Nothing
pending_after v d (Prepare b) = Making b (known_of v.words b.0)
pending_after v d (Write b j n) = Making b (slice_set (known_words (pending v d)) j n)
pending_after v d (OnCell x) = cell_pending (model_state v) x
pending_after v d _ = Idle

-- the desk is making an object in this block, and knows its five loose words
pub record IsMaking (v : GhostState) (d : ℕ) (b : Block) : Type 0 where
  pub words : List ℕ
  pub size : length words ≡ 5
  pub making : pending v d ≡ Making b words

abbrev pub event_added : ℕ → Option (Event Nothing) → List (Entry Nothing) → List (Entry Nothing)
event_added d None h = h
event_added d (Some e) h = entry d e ∷ h

abbrev pub history_after : GhostState → ℕ → AtomicStep → List (Entry Nothing)
history_after v d x = event_added d (event_of (model_state v) x) v.history

abbrev pub views_after : GhostState → ℕ → AtomicStep → List (View Nothing)
views_after v d x = slice_set v.views d (sees_as (view_in v.views d) (pending_after v d x) (history_after v d x))

-- the ghost state after an atomic step of desk d
abbrev pub ghost_after_step : GhostState → ℕ → AtomicStep → GhostState
ghost_after_step v d x =
    record { extent = v.extent; words = words_after v x; views = views_after v d x; history = history_after v d x }

-- each actor has a view of its own
pub record Seats (views : List (View Nothing)) (actors : ℕ) : Type 0 where
  pub size : length views ≡ actors
  pub names : (d : ℕ) → d < actors → (view_in views d).name ≡ d
  pub awake : (d : ℕ) → d < actors → (view_in views d).spent ≡ false

-- what a desk has half done shuts no door, and is no split or join
abbrev pub ShutsNoDoor : Pending Nothing → Type 0
ShutsNoDoor Idle = Unit {0}
ShutsNoDoor (Making b l) = Unit {0}
ShutsNoDoor (Paying k o p word funds loads) = Unit {0}
ShutsNoDoor _ = ⊥

-- each object that was made has four fields
abbrev pub AllWhole : State → Type 0
AllWhole s = (o : ℕ) → 0 < o → o ≤ s.made → length (s.object o).fields ≡ 4

-- the words stand for the history; nobody's allowance has changed, and no door is shut
pub record TableInvariant (v : GhostState) : Type 0 where
  pub stands : Stands (opening v.extent) v.words v.views v.history
  pub seats : Seats v.views v.extent.actors
  pub doors : (d : ℕ) → ShutsNoDoor (pending v d)
  pub whole : AllWhole (model_state v)
  pub proper : IsExtent v.extent
  pub allowed : (model_state v).allowance ≡ share_of v.extent
