-- Which event an act is by its reply, or that it is none; and what a thread's acts are, one after another. Events name
-- their sections in the model; the rest is own.
use Rattle.std.specs.Prelude.{◌≡◌, ◌≢◌, ◌⊎◌, ℕ, ◌<◌, ◌≤◌, Bool, true, false, cond}
use Rattle.std.specs.Prelude.{◌++◌, ◌||◌, is_some, List, [], ◌∷◌, slice_set, Option, Some, None}
use Rattle.std.specs.Prelude.{option_map}
use Rattle.control_word.specs.declared.model.event.Entry.{Entry}
use Rattle.control_word.specs.declared.model.event.Event.{Event}
use Rattle.control_word.specs.declared.model.event.Event.TheVariants as event
use Rattle.control_word.specs.declared.model.handle.NumberedHandle.{NumberedHandle}
use Rattle.control_word.specs.declared.model.handle.Kind.{Kind}
use Rattle.control_word.specs.declared.model.handle.Kind.TheVariants.{Owner, Weak}
use Rattle.control_word.specs.declared.place.Place.{Place}
use Rattle.control_word.specs.Events.{place_at}
use Rattle.control_word.specs.Handles.{has_object, owner, weak_of}
use Rattle.control_word.specs.Histories.{entry, leads}
use Rattle.control_word.specs.State.{Opening, State, stock}
use Rattle.step_table.specs.declared.memory.ended.Ended.{Ended}
use Rattle.step_table.specs.declared.memory.form.Form.{Form}
use Rattle.control_word.specs.declared.handle.Handle.{Handle}
use Rattle.step_table.specs.declared.slots.slot.Slot.{Slot}
use Rattle.step_table.specs.CellAtomicSteps.{cell_in, kind_in_state}
use Rattle.step_table.specs.Contents.{slot_of, named_handle}
use Rattle.step_table.specs.AtomicSteps.{aliased, handle_of, is_enabled, owned}
use Rattle.step_table.specs.Registers.{Slots, inside, is_full, owner_slot, place_in, slot_pointer, slot_value}
use Rattle.step_table.specs.Registers.{weak_slot}
use Rattle.step_threads.specs.declared.programs.act.Act.{Act}
use Rattle.step_threads.specs.declared.programs.act.Act.TheVariants.{Make, Share, Downgrade, Lock, Put, Leave, Clear}
use Rattle.step_threads.specs.declared.programs.act.Act.TheVariants.{Count}
use Rattle.step_threads.specs.declared.programs.act.Act.TheVariants.{Expired, Read, FromThis, Alias, Move, Ask, Offer}
use Rattle.step_threads.specs.declared.programs.act.Act.TheVariants.{Swap}
use Rattle.step_threads.specs.declared.programs.act.Act.TheVariants.{Exchange, Load, Compare, Holds, Drop, OnShelf}
use Rattle.step_threads.specs.declared.programs.act.Task.{Task}
use Rattle.step_threads.specs.declared.programs.call.CellName.{CellName}
use Rattle.step_threads.specs.declared.ending.Ending.{Ending}
use Rattle.step_threads.specs.declared.said.Said.{Said}
use Rattle.step_threads.specs.Frames.{FrameView, cell_of_name, hand, is_there, offered, other}
use Rattle.step_threads.specs.Endings.{staged}
use Rattle.step_threads.specs.Rows.{Reply, Plain, Found, Got, Told, Came, Compared, Left, frame_after_act, may_go, row}
use Rattle.step_threads.specs.Rows.{said_by_row}
use Rattle.step_threads.specs.declared.programs.act.ShelfAct.TheVariants.{Shelve, Unshelve}
use Rattle.step_threads.specs.AbstractStates.{answers_order, remains_as}
use Rattle.step_threads.specs.Steps.{silent}

-- what is so of a pointer, or else where there is none
abbrev pub On : (Handle → Type 0) → Type 0 → Option Handle → Type 0
On p none None = none
On p none (Some x) = p x

abbrev pub Where : Bool → Type 0 → Type 0 → Type 0
Where true p q = p
Where false p q = q

-- what a thread says that has something to say, with its desk
abbrev pub spoken : ℕ → Said → List (ℕ × Said)
spoken d x = cond (is_some x.answer || is_some x.ended) ((d, x) ∷ []) []

-- what a thread does next: nothing, at its end; an act, with the tasks after it; or the end of an object goes on
pub data Ahead : Type 0 where
  Over : Ahead
  AnAct : Task → List Task → Ahead
  AnEnd : Ending → List Ending → Ahead

-- what came out of a member of an ending object leaves before all else
abbrev pub ahead_of : Slots → List Ending → List Task → Ahead
ahead_of l [] [] = Over
ahead_of l [] (t ∷ ts) = AnAct t ts
ahead_of l (e ∷ es) ts =
    cond (is_full (slot_pointer l (hand l))) (AnAct (record {
      statement = e.statement;
      act =
          Leave (hand l);
    }) ts) (AnEnd e es)

abbrev pub ahead : FrameView → Ahead
ahead w = ahead_of w.slots w.endings w.todo

-- an event of a desk, or the mark of an act that is none; and what is said
pub record TraceLabel (V : Type 0) : Type 0 where
  pub desk : ℕ
  pub event : Option (Event V)
  pub said : Said

module _ {V : Type 0} where
  -- a pointer of this kind and place to a pointer's object is taken
  abbrev pub copies : State → Kind → Option Place → Handle → Event V
  copies s Owner p x = event.Share (owner (owned s x) x.place) p
  copies s Weak p x = event.WeakShare (owned s x) p

  abbrev pub copy : State → Handle → Event V
  copy s x = copies s x.kind x.place x

  abbrev pub leaves_as : State → Kind → Bool → Handle → Event V
  leaves_as s Owner last x = event.Leave (owner (owned s x) x.place) last
  leaves_as s Weak vacant x = event.WeakLeave (weak_of (owned s x) x.place) vacant

  -- a pointer leaves; where it was the last owner it is told what its object leaves
  abbrev pub IsLeaveEvent : State → Option Handle → Bool → Option Ended → Option (Event V) → Type 0
  IsLeaveEvent s None last left e = (last ≡ false) × (left ≡ None) × (e ≡ None)
  IsLeaveEvent s (Some x) last left e =
      (e ≡ Some (leaves_as s x.kind last x)) × (left ≡ cond last (remains_as x.kind (s.object (owned s x))) None)

  -- what a cell held comes into a slot: by a load, a swap for the value of slot i, or a compare of that of slot k
  abbrev pub IsLoadEvent : State → Slots → CellName → Slot → Option (Event V) → Type 0
  IsLoadEvent s l c x e = (h : NumberedHandle) × (e ≡ Some (event.Load (cell_in s (cell_of_name s l c)) h))
      × (x ≡ slot_of s h)

  abbrev pub IsSwapEvent : State → Slots → CellName → ℕ → Slot → Option (Event V) → Type 0
  IsSwapEvent s l c i x e =
      let y = cell_of_name s l c in
      (h : NumberedHandle)
      × (e ≡ Some (event.Swap (cell_in s y) (named_handle s (kind_in_state s y) (slot_value l i)) h))
      × (x ≡ slot_of s h)

  abbrev pub IsCompareEvent : State → Slots → CellName → ℕ → Bool → Bool → Slot
      → Option (Event V) → Type 0
  IsCompareEvent s l c k weak swaps x e =
      let y = cell_of_name s l c in
      let q = kind_in_state s y in
      (h : NumberedHandle)
      × (e ≡ Some (event.Compare (cell_in s y) (named_handle s q (slot_value l k))
      (named_handle s q (slot_value l (hand l))) h swaps weak))
      × (x ≡ slot_of s h)

  -- whether a cell holds the value of slot k
  abbrev pub IsSameEvent : State → Slots → CellName → ℕ → Bool → Option (Event V) → Type 0
  IsSameEvent s l c k same e =
      let y = cell_of_name s l c in
      e ≡ Some (event.Same (cell_in s y) (named_handle s (kind_in_state s y) (slot_value l k)) same)

  -- The act of desk d with this reply, with these slots, in state s, is event e, or none. Whether the reply of an event
  -- is right is asked by the history; of an act that is none it is said here. An object's value is what its form is
  -- worth
  abbrev pub IsMakeEvent : (Form → V) → State → ℕ → Slots → Act → Reply → Option (Event V) → Type 0
  IsMakeEvent worth s d l (Make form) (Found None) e = (stock s d ≡ []) × (e ≡ None)
  IsMakeEvent worth s d l (Make form) (Found (Some b)) e =
      e ≡ Some (event.Make (record { 0 = b }) form.enabled form.null form.fields (worth form))
  IsMakeEvent worth s d l (Share k) Plain e = e ≡ option_map (copy s) (slot_pointer l k)
  IsMakeEvent worth s d l (Put k) (Left last left) e = IsLeaveEvent s (slot_pointer l k) last left e
  IsMakeEvent worth s d l (Leave k) (Left last left) e = IsLeaveEvent s (slot_pointer l k) last left e
  IsMakeEvent worth s d l (Clear k) (Left last left) e = IsLeaveEvent s (slot_pointer l k) last left e
  IsMakeEvent worth s d l Drop (Left last left) e = IsLeaveEvent s (slot_pointer l (other l)) last left e
  IsMakeEvent worth s d l (Count k) (Told n) e =
      On (λ x. e ≡ Some (event.Count (handle_of s x) n)) ((n ≡ 0) × (e ≡ None)) (slot_pointer l k)
  IsMakeEvent worth s d l (Downgrade k) Plain e =
      e ≡ option_map (λ (x : Handle). copies s Weak x.place x) (slot_pointer l k)
  IsMakeEvent worth s d l (Lock k must) (Got got) e =
      On (λ x. e ≡ Some (event.Lock (weak_of (owned s x) x.place) got))
      ((got ≡ false) × (e ≡ None)) (weak_slot (slot_pointer l k))
  IsMakeEvent worth s d l (Expired k) (Got b) e =
      On (λ x. e ≡ Some (event.Expired (handle_of s x) b)) ((b ≡ true) × (e ≡ None)) (slot_pointer l k)
  IsMakeEvent worth s d l (Read k) (Told n) e =
      On (λ x. e ≡ Some (event.Read (owner (owned s x) x.place) n)) (e ≡ None) (inside (slot_pointer l k))
  IsMakeEvent worth s d l (FromThis k kind) (Got got) e =
      On (λ x. (got ≡ is_enabled s x) × (e ≡ cond got (Some (copies s kind (place_at x.block.0) x)) None))
      ((got ≡ false) × (e ≡ None)) (inside (slot_pointer l k))
  IsMakeEvent worth s d l (Alias k j field) Plain e =
      e ≡ option_map (copies s Owner (aliased field (place_in l j))) (owner_slot (slot_pointer l k))
  IsMakeEvent worth s d l (Move k) Plain e = e ≡ None
  IsMakeEvent worth s d l (Ask q) (Got b) e = (b ≡ answers_order s l q) × (e ≡ None)
  IsMakeEvent worth s d l (Offer k c) Plain e = e ≡ option_map (copy s) (offered l k c)
  IsMakeEvent worth s d l (Swap c) (Came x) e =
      Where (may_go l c (hand l)) (IsSwapEvent s l c (hand l) x e) (e ≡ None)
  IsMakeEvent worth s d l (Exchange k c) (Came x) e = Where (may_go l c k) (IsSwapEvent s l c k x e) (e ≡ None)
  IsMakeEvent worth s d l (Load c) (Came x) e = Where (is_there l c) (IsLoadEvent s l c x e) (e ≡ None)
  IsMakeEvent worth s d l (Compare k c weak) (Compared swaps x) e = IsCompareEvent s l c k weak swaps x e
  IsMakeEvent worth s d l (Holds k c) (Got b) e =
      Where (may_go l c k) (IsSameEvent s l c k b e) ((b ≡ false) × (e ≡ None))
  IsMakeEvent worth s d l (OnShelf Shelve) (Found None) e = (stock s d ≡ []) × (e ≡ None)
  IsMakeEvent worth s d l (OnShelf Shelve) (Found (Some b)) e = e ≡ Some (event.Shelve (record { 0 = b }))
  IsMakeEvent worth s d l (OnShelf (Unshelve b)) (Got got) e =
      (got ≡ s.shelved b.0) × (e ≡ cond got (Some (event.Unshelve b)) None)
  IsMakeEvent worth s d l _ _ e = ⊥

  -- an act is made, with some reply: what is done, what it says, and where the thread is then
  pub record MakesAct (worth : Form → V) (s : State) (w : FrameView) (t : Task) (ts : List Task) (x : TraceLabel V)
      (u : FrameView) : Type 0 where
    pub reply : Reply
    pub makes : IsMakeEvent worth s x.desk w.slots t.act reply x.event
    pub says : x.said ≡ said_by_row t.statement (row t.act w.slots w.taken reply)
    pub goes : u ≡ frame_after_act w t.statement ts (row t.act w.slots w.taken reply)

  -- the next member of an ending object is cleared; what it held comes into the hand, if it has an object
  pub record ClearsNext (s : State) (w : FrameView) (e : Ending) (es : List Ending) (x : TraceLabel V) (u : FrameView) :
      Type 0 where
    pub held : NumberedHandle
    pub some : e.stage < 3
    pub makes : x.event ≡ Some (event.ClearMember (s.latest e.block.0) e.stage held)
    pub says : x.said ≡ silent e.statement
    pub goes : u ≡ record {
      slots = cond (has_object held) (slice_set w.slots (hand w.slots) (slot_of s held)) w.slots;
      taken = w.taken;
      endings = staged e ∷ es;
      todo = w.todo;
    }

  -- an ending object without a member left is finished
  pub record FinishesEnding (s : State) (w : FrameView) (e : Ending) (es : List Ending) (x : TraceLabel V)
      (u : FrameView)
      : Type 0 where
    pub vacant : Bool
    pub value : V
    pub none : 3 ≤ e.stage
    pub makes : x.event ≡ Some (event.Finish (s.latest e.block.0) vacant value)
    pub says : x.said ≡ silent e.statement
    pub goes : u ≡ record { slots = w.slots; taken = w.taken; endings = es; todo = w.todo }

  abbrev pub DoesAhead : (Form → V) → State → FrameView → TraceLabel V → FrameView → Ahead → Type 0
  DoesAhead worth s w x u Over = ⊥
  DoesAhead worth s w x u (AnAct t ts) = MakesAct worth s w t ts x u
  DoesAhead worth s w x u (AnEnd e es) = ClearsNext s w e es x u ⊎ FinishesEnding s w e es x u

  -- in state s a thread that is at w does this next, and is at u then
  abbrev pub DoesNext : (Form → V) → State → FrameView → TraceLabel V → FrameView → Type 0
  DoesNext worth s w x u = DoesAhead worth s w x u (ahead w)

  abbrev pub put_on : ℕ → Option (Event V) → List (Entry V) → List (Entry V)
  put_on d None h = h
  put_on d (Some e) h = entry d e ∷ h

  -- a history, and what was done since, the newest first; marks are left out
  abbrev pub onto : List (Entry V) → List (TraceLabel V) → List (Entry V)
  onto h [] = h
  onto h (x ∷ l) = put_on x.desk x.event (onto h l)

  -- what desk d did since h takes its thread from w to u, each in the state in which it stands; others' trace labels
  -- are passed
  abbrev pub GoesThrough : (Form → V) → Opening → List (Entry V) → ℕ → FrameView → List (TraceLabel V)
      → FrameView → Type 0
  GoesThrough worth z h d w [] u = u ≡ w
  GoesThrough worth z h d w (x ∷ l) u =
      ((x.desk ≢ d) × GoesThrough worth z h d w l u)
      ⊎ ((x.desk ≡ d) × ((m : FrameView) × GoesThrough worth z h d w l m × DoesNext worth (leads z (onto h l)) m x u))

  -- what was said, the oldest first
  abbrev pub lines : List (TraceLabel V) → List (ℕ × Said)
  lines [] = []
  lines (x ∷ l) = lines l ++ spoken x.desk x.said
