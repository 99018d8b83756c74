-- What acts do to the object of a pointer. All of it is own but the events, which name their sections.
use Rattle.std.specs.Prelude.{◌≡◌, ◌≢◌, ℕ, ◌≤◌, ◌==◌, Bool, cond, ◌&&◌, not, Option, Some}
use Rattle.std.specs.Prelude.{None, slice_index}
use Rattle.control_word.specs.declared.model.handle.Kind.{Kind}
use Rattle.control_word.specs.declared.model.handle.Kind.TheVariants.{Owner, Weak}
use Rattle.control_word.specs.declared.place.Place.{Place}
use Rattle.control_word.specs.Events.{is_gone, place_at}
use Rattle.control_word.specs.Layout.{spot}
use Rattle.control_word.specs.Packing.{number_of}
use Rattle.control_word.specs.State.{Object, State, count, weak}
use Rattle.control_word.specs.Views.{owes}
use Rattle.step_table.specs.declared.memory.field.Field.{Field}
use Rattle.control_word.specs.declared.handle.Handle.{Handle}
use Rattle.step_table.specs.declared.memory.ghost_history.AtomicStep.{AtomicStep}
use Rattle.step_table.specs.declared.memory.ghost_history.AtomicStep.TheVariants as atomic_step
use Rattle.step_table.specs.GhostStates.{GhostState, pending, model_state}
use Rattle.step_table.specs.declared.memory.field.Field.TheVariants.{Zero, One, Two, Three}
use Rattle.control_word.specs.declared.model.handle.NumberedHandle.{NumberedHandle}
use Rattle.control_word.specs.Handles.{handle, empty, owner_before}
use Rattle.step_table.specs.declared.memory.ended.Ended.{Ended}
use Rattle.step_table.specs.declared.memory.ended.Ended.TheVariants as ended
use Rattle.control_word.specs.Words.{blocks_of}

-- the number of a field
abbrev pub field_number : Field → ℕ
field_number Zero = 0
field_number One = 1
field_number Two = 2
field_number Three = 3

-- the object that a pointer owns or shares: no other keeps the block
abbrev pub owned : State → Handle → ℕ
owned s x = s.latest x.block.0

-- the same pointer, of the other kind
abbrev pub as_owner : Handle → Handle
as_owner x = record { kind = Owner; block = x.block; place = x.place }

abbrev pub as_weak : Handle → Handle
as_weak x = record { kind = Weak; block = x.block; place = x.place }

-- an owner's leave is the last where no other owner is left; a weak handle's, where it leaves the block vacant
abbrev pub last_as : Kind → State → ℕ → Bool
last_as Owner s o = count s o == 1
last_as Weak s o = weak s o == 1 && is_gone (s.object o).phase

abbrev pub is_last : State → Handle → Bool
is_last s x = last_as x.kind s (owned s x)

-- no owner is left
abbrev pub is_expired : State → Handle → Bool
is_expired s x = count s (owned s x) == 0

-- a copy of a pointer
abbrev pub share_as : Kind → Handle → AtomicStep
share_as Owner x = atomic_step.Share x.block x.place x.place
share_as Weak x = atomic_step.WeakShare x.block x.place

abbrev pub share : Handle → AtomicStep
share x = share_as x.kind x

-- a field of what a place points into; null has none
abbrev pub aliased : Option Field → Option Place → Option Place
aliased None p = None
aliased (Some field) None = None
aliased (Some field) (Some p) = Some (record { block = p.block; field = field_number field })

-- an owner of the same object with another place ([util.smartptr.shared.const], the aliasing constructor)
abbrev pub at_place : Option Place → Handle → Handle
at_place p x = record { kind = Owner; block = x.block; place = p }

abbrev pub alias : Option Place → Handle → AtomicStep
alias p x = atomic_step.Share x.block x.place p

-- a weak pointer to the same object
abbrev pub downgrade : Handle → AtomicStep
downgrade x = atomic_step.WeakShare x.block x.place

abbrev pub leave_as : Kind → Handle → Bool → AtomicStep
leave_as Owner x last = atomic_step.Leave x.block x.place last
leave_as Weak x last = atomic_step.WeakLeave x.block x.place last

abbrev pub leave : State → Handle → AtomicStep
leave s x = leave_as x.kind x (is_last s x)

-- the word that counts the owners of a pointer's object
abbrev pub owner_word : GhostState → Handle → ℕ
owner_word v x = slice_index v.words (spot x.block.0 0)

-- how many owners of a pointer's object are told
abbrev pub Telling : Type 0
Telling = State → Handle → ℕ

-- all that there are ([util.smartptr.shared.obs], `use_count`)
abbrev pub exact : Telling
exact s x = count s (owned s x)

-- what a look at the word tells: the owners that it numbers, and 1 where it numbers none but has funds, as a load is
-- under way then
abbrev pub told_number : ℕ → ℕ
told_number word = cond (number_of word == 0) (cond (word == 0) 0 1) (number_of word)

abbrev pub by_word : GhostState → Telling
by_word v s x = told_number (owner_word v x)

-- no other desk has a load of the pointer's object under way
abbrev pub IsSettled : GhostState → ℕ → Handle → Type 0
IsSettled v d x = (e : ℕ) → e ≢ d → owes (pending v e) (spot x.block.0 0) ≡ 0

-- none are told just where there are none, never more than there are, and all that there are where no such load is
-- under way
pub record TellsUseCount (v : GhostState) (d : ℕ) (s : State) (tell : Telling) (x : Handle) : Type 0 where
  pub none : (tell s x == 0) ≡ (exact s x == 0)
  pub most : tell s x ≤ exact s x
  pub exactly : IsSettled v d x → tell s x ≡ exact s x

abbrev pub tell_count : Telling → State → Handle → AtomicStep
tell_count tell s x = atomic_step.Count x.kind x.block x.place (tell s x)

abbrev pub tell : GhostState → Handle → AtomicStep
tell v = tell_count (by_word v) (model_state v)

abbrev pub tell_expired : State → Handle → AtomicStep
tell_expired s x = atomic_step.Expired x.kind x.block x.place (is_expired s x)

abbrev pub lock : State → Handle → AtomicStep
lock s x = atomic_step.Lock x.block x.place (not (is_expired s x))

-- the field that a pointer points at
abbrev pub field_at : Object → Option Place → ℕ
field_at o None = 0
field_at o (Some p) = slice_index o.fields p.field

abbrev pub field_of : State → Handle → ℕ
field_of s x = field_at (s.object (owned s x)) x.place

abbrev pub read_atomic_step : State → Handle → AtomicStep
read_atomic_step s x = atomic_step.Read x.block x.place (field_of s x)

-- the object gives pointers to itself ([util.smartptr.enab])
abbrev pub is_enabled : State → Handle → Bool
is_enabled s x = (s.object (owned s x)).enabled

-- what it gives: a pointer of this kind to the object itself
abbrev pub this_as : Kind → Handle → Handle
this_as k x = record { kind = k; block = x.block; place = place_at x.block.0 }

abbrev pub give : Kind → Handle → AtomicStep
give Owner x = atomic_step.Share x.block x.place (place_at x.block.0)
give Weak x = atomic_step.WeakShare x.block (place_at x.block.0)

-- a pointer as histories name it
abbrev pub handle_of : State → Handle → NumberedHandle
handle_of s x = handle x.kind (Some (owned s x)) x.place

abbrev pub on : {A : Type 0} → (Handle → A) → A → Option Handle → A
on f none None = none
on f none (Some x) = f x

-- what owns nothing comes before all that owns something, and else the lesser block first ([util.smartptr.shared.obs];
-- by block: own)
abbrev pub pointer_before : State → Option Handle → Option Handle → Bool
pointer_before s x y = owner_before (blocks_of s) (on (handle_of s) (empty Owner) x) (on (handle_of s) (empty Owner) y)

abbrev pub remains : Object → Ended
remains x = cond x.null ended.Null (ended.Fields x.fields)
