-- Which calls of a desk are which acts of a thread, by what the thread has in its slots: each law by itself. The call
-- is the act by the state in which its event stands. Events name their sections in the model; the rest is own.
use Rattle.std.specs.Prelude.{◌≡◌, ℕ, ◌++◌, Bool, true, cond, Option, None, Some}
use Rattle.control_word.specs.declared.model.event.Event.{Event}
use Rattle.control_word.specs.declared.model.event.Event.TheVariants as event
use Rattle.control_word.specs.declared.model.handle.Kind.{Kind}
use Rattle.control_word.specs.declared.model.handle.Kind.TheVariants.{Owner, Weak}
use Rattle.control_word.specs.declared.place.Block.{Block}
use Rattle.control_word.specs.declared.place.Place.{Place}
use Rattle.control_word.specs.Events.{place_at}
use Rattle.control_word.specs.Histories.{leads}
use Rattle.control_word.specs.State.{State}
use Rattle.control_block.specs.Desks.{AddsEvent, DeskNow, HasHandle, latest_of, object_in, on_latest}
use Rattle.control_block.specs.Rule.{opening_of}
use Rattle.step_table.specs.declared.memory.field.Field.{Field}
use Rattle.step_table.specs.declared.memory.form.Form.{Form}
use Rattle.control_word.specs.declared.handle.Handle.{Handle}
use Rattle.step_table.specs.AtomicSteps.{aliased, remains}
use Rattle.step_table.specs.Registers.{Slots, place_in, slot_pointer}
use Rattle.step_threads.specs.declared.programs.act.Act.{Act}
use Rattle.step_threads.specs.declared.programs.act.Act.TheVariants as act
use Rattle.step_threads.specs.Frames.{other}
use Rattle.step_threads.specs.TraceLabels.{IsMakeEvent}
use Rattle.step_threads.specs.Rows.{Reply, Plain, Found, Got, Told, Left}

abbrev pub pointer : Kind → Block → Option Place → Handle
pointer k b p = record { kind = k; block = b; place = p }

-- the acts that leave what slot i holds
abbrev pub IsLeaveOf : Act → Slots → ℕ → Type 0
IsLeaveOf (act.Put k) l i = i ≡ k
IsLeaveOf (act.Leave k) l i = i ≡ k
IsLeaveOf (act.Clear k) l i = i ≡ k
IsLeaveOf act.Drop l i = i ≡ other l
IsLeaveOf _ l i = ⊥

module _ (V : Type 0) where
  -- slot i has the pointer, which is a handle of the desk's
  pub record HasPointer (d : DeskNow V) (l : Slots) (i : ℕ) (k : Kind) (b : Block) (p : Option Place) : Type 0 where
    pub at : slot_pointer l i ≡ Some (pointer k b p)
    pub has : HasHandle d k p b.0

  -- the state in which a call's event stands
  abbrev pub state_before_event : {d e : DeskNow V} {v : Event V} → AddsEvent d v e → State
  state_before_event {d} adds = leads (opening_of d.shape) (adds.between ++ d.seen)

  -- with these slots the call is this act of desk n's thread, with this reply
  abbrev pub IsAct : (Form → V) → ℕ → DeskNow V → Slots → Act → Reply → Event V → DeskNow V → Type 0
  IsAct worth n d l a r v e = (adds : AddsEvent d v e) → IsMakeEvent worth (state_before_event adds) n l a r (Some v)

  -- make_shared, and a constructor from a null pointer ([util.smartptr.shared.create], [util.smartptr.shared.const])
  abbrev pub Made : Type 0
  Made =
      (worth : Form → V) (n : ℕ) (d e : DeskNow V) (l : Slots) (form : Form) (b : Block)
      → IsAct worth n d l (act.Make form) (Found (Some b.0))
      (event.Make b form.enabled form.null form.fields (worth form)) e

  -- a copy of an owner, and of a weak handle ([util.smartptr.shared.const], [util.smartptr.weak.const])
  abbrev pub Copied : Type 0
  Copied =
      (worth : Form → V) (n : ℕ) (d e : DeskNow V) (l : Slots) (i : ℕ) (b : Block) (p : Option Place)
      → HasPointer d l i Owner b p
      → IsAct worth n d l (act.Share i) Plain (event.Share (on_latest d Owner p b.0) p) e

  abbrev pub CopiedWeakly : Type 0
  CopiedWeakly =
      (worth : Form → V) (n : ℕ) (d e : DeskNow V) (l : Slots) (i : ℕ) (b : Block) (p : Option Place)
      → HasPointer d l i Weak b p → IsAct worth n d l (act.Share i) Plain (event.WeakShare (latest_of d b.0) p) e

  -- a weak handle of an owner's object ([util.smartptr.weak.const])
  abbrev pub Downgraded : Type 0
  Downgraded =
      (worth : Form → V) (n : ℕ) (d e : DeskNow V) (l : Slots) (i : ℕ) (b : Block) (p : Option Place)
      → HasPointer d l i Owner b p
      → IsAct worth n d l (act.Downgrade i) Plain (event.WeakShare (latest_of d b.0) p) e

  -- the aliasing constructor ([util.smartptr.shared.const])
  abbrev pub Aliased : Type 0
  Aliased =
      (worth : Form → V) (n : ℕ) (d e : DeskNow V) (l : Slots) (i j : ℕ) (field : Option Field)
      (b : Block) (p : Option Place)
      → HasPointer d l i Owner b p
      → IsAct worth n d l (act.Alias i j field) Plain
      (event.Share (on_latest d Owner p b.0) (aliased field (place_in l j))) e

  -- a lock, and a shared pointer from a weak one ([util.smartptr.weak.obs], [util.smartptr.shared.const])
  abbrev pub Locked : Type 0
  Locked =
      (worth : Form → V) (n : ℕ) (d e : DeskNow V) (l : Slots) (i : ℕ) (must got : Bool)
      (b : Block) (p : Option Place)
      → HasPointer d l i Weak b p
      → IsAct worth n d l (act.Lock i must) (Got got) (event.Lock (on_latest d Weak p b.0) got) e

  -- use_count and expired ([util.smartptr.shared.obs], [util.smartptr.weak.obs])
  abbrev pub Counted : Type 0
  Counted =
      (worth : Form → V) (n : ℕ) (d e : DeskNow V) (l : Slots) (i owners : ℕ) (k : Kind)
      (b : Block) (p : Option Place)
      → HasPointer d l i k b p → IsAct worth n d l (act.Count i) (Told owners)
      (event.Count (on_latest d k p b.0) owners) e

  abbrev pub Expired : Type 0
  Expired =
      (worth : Form → V) (n : ℕ) (d e : DeskNow V) (l : Slots) (i : ℕ) (expired : Bool)
      (b : Block) (p : Option Place)
      → HasPointer d l i Weak b p
      → IsAct worth n d l (act.Expired i) (Got expired) (event.Expired (on_latest d Weak p b.0) expired) e

  -- the field that an owner points at, in the object that it owns
  abbrev pub Read : Type 0
  Read =
      (worth : Form → V) (n : ℕ) (d e : DeskNow V) (l : Slots) (i field : ℕ) (q : Place)
      → HasPointer d l i Owner q.block (Some q)
      → IsAct worth n d l (act.Read i) (Told field) (event.Read (on_latest d Owner (Some q) q.block.0) field) e

  -- a pointer of either kind from an object that gives pointers to itself ([util.smartptr.enab])
  abbrev pub GivenThis : Type 0
  GivenThis =
      (worth : Form → V) (n : ℕ) (d e : DeskNow V) (l : Slots) (i : ℕ) (q : Place)
      → HasPointer d l i Owner q.block (Some q) → (object_in d q.block.0).enabled ≡ true
      → IsAct worth n d l (act.FromThis i Owner) (Got true)
      (event.Share (on_latest d Owner (Some q) q.block.0) (place_at q.block.0)) e

  abbrev pub GivenWeakThis : Type 0
  GivenWeakThis =
      (worth : Form → V) (n : ℕ) (d e : DeskNow V) (l : Slots) (i : ℕ) (q : Place)
      → HasPointer d l i Owner q.block (Some q) → (object_in d q.block.0).enabled ≡ true
      → IsAct worth n d l (act.FromThis i Weak) (Got true)
      (event.WeakShare (latest_of d q.block.0) (place_at q.block.0)) e

  -- an owner leaves, and of the last one it is told what its object leaves ([util.smartptr.shared.dest])
  abbrev pub Gone : Type 0
  Gone =
      (worth : Form → V) (n : ℕ) (d e : DeskNow V) (l : Slots) (a : Act) (i : ℕ) (last : Bool)
      (b : Block) (p : Option Place)
      → IsLeaveOf a l i → HasPointer d l i Owner b p
      → IsAct worth n d l a (Left last (cond last (Some (remains (object_in d b.0))) None))
      (event.Leave (on_latest d Owner p b.0) last) e

  -- and a weak handle ([util.smartptr.weak.dest])
  abbrev pub GoneWeakly : Type 0
  GoneWeakly =
      (worth : Form → V) (n : ℕ) (d e : DeskNow V) (l : Slots) (a : Act) (i : ℕ) (vacant : Bool)
      (b : Block) (p : Option Place)
      → IsLeaveOf a l i → HasPointer d l i Weak b p
      → IsAct worth n d l a (Left vacant None) (event.WeakLeave (on_latest d Weak p b.0) vacant) e
