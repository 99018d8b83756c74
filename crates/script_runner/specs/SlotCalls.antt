-- What the calls of a worker's table say.
use Rattle.std.specs.Prelude.{◌≡◌, ◌≢◌, ℕ, Bool, false, true, List, [], ◌∷◌}
use Rattle.std.specs.Prelude.{is_some, slice_get, slice_set, Option, None, Some, Result}
use Rattle.control_word.specs.declared.model.handle.Kind.TheVariants as kind
use Rattle.control_word.specs.declared.place.Block.{Block}
use Rattle.control_word.specs.declared.place.Place.{Place}
use Rattle.control_word.specs.declared.refusal.Refusal.{Refusal}
use Rattle.control_block.specs.Desks.{DeskNow, allowance_of, held_of}
use Rattle.control_block.specs.declared.handles.Held.{Held}
use Rattle.control_block.specs.declared.handles.Held.TheVariants.{Owner, Weak}
use Rattle.control_block.specs.declared.handles.Shared.{Shared}
use Rattle.control_block.specs.declared.handles.Weak as weak_handle
use Rattle.shared_handle.specs.Calls as inner
use Rattle.shared_handle.specs.Endings.{IsRead}
use Rattle.shared_handle.specs.Locks as locks
use Rattle.shared_handle.specs.Piles.{Drops}
use Rattle.shared_handle.specs.declared.endings.Ending.{Ending}
use Rattle.shared_handle.specs.declared.pile.Gone.{Gone}
use Rattle.shared_handle.specs.declared.pile.Gone.TheVariants as gone
use Rattle.script_runner.specs.Parts.{block_of_held}
use Rattle.script_runner.specs.Tables.{IsAt, Slot, TableNow}

-- what is told of a weak handle that left, by what it was of
abbrev pub weak_gone : Option Block → Gone
weak_gone None = gone.Empty
weak_gone (Some b) = gone.Others

-- the slot has a handle, an owner, a weak handle
abbrev pub IsHandleAt : List Slot → ℕ → Type 0
IsHandleAt ss i = (h : Held) × (slice_get ss i ≡ Some (Some h))

abbrev pub IsOwnerAt : List Slot → ℕ → Type 0
IsOwnerAt ss i = (h : Shared) × (slice_get ss i ≡ Some (Some (Owner h)))

abbrev pub IsWeakAt : List Slot → ℕ → Type 0
IsWeakAt ss i = (w : weak_handle.Weak) × (slice_get ss i ≡ Some (Some (Weak w)))

-- whether it has a handle of an object
abbrev pub has_block : Slot → Bool
has_block None = false
has_block (Some h) = is_some (block_of_held h)

module _ {V : Type 0} where
  -- the desk is below its allowance
  abbrev pub IsBelow : DeskNow V → Type 0
  IsBelow d = held_of d ≢ allowance_of d

  -- a handle left the desk, and what ends for it went onto the pile
  abbrev pub LetsGo : DeskNow V → List (Ending V) → Held → Gone → DeskNow V → List (Ending V) → Type 0
  LetsGo d xs (Owner h) gone e ys = Drops d xs h.block h.place gone e ys
  LetsGo d xs (Weak w) gone e ys =
      (gone ≡ weak_gone w.block) × (ys ≡ xs) × ((vacant : Bool) × inner.LeavesWeakly d w.block w.place vacant e)

  -- the same of a slot that may be vacant
  abbrev pub LeavesSlot : DeskNow V → List (Ending V) → Slot → DeskNow V → List (Ending V) → Type 0
  LeavesSlot d xs None e ys = (e ≡ d) × (ys ≡ xs)
  LeavesSlot d xs (Some h) e ys = (gone : Gone) × LetsGo d xs h gone e ys

  -- the handle is in the slot now, and what lay there left: an assignment
  pub record Assigns (d : DeskNow V) (ss : List Slot) (xs : List (Ending V)) (to : ℕ) (h : Held)
      (e : DeskNow V) (ts : List Slot)
      (ys : List (Ending V)) : Type 0 where
    pub old : Slot
    pub was : slice_get ss to ≡ Some old
    pub slots : ts ≡ slice_set ss to (Some h)
    pub leaves : LeavesSlot d xs old e ys

  -- a handle came to the desk as told, which was below its allowance, and was assigned to the slot
  pub record Comes (came : DeskNow V → Held → DeskNow V → Type 0) (t : TableNow V) (to : ℕ)
      (u : TableNow V) : Type 0 where
    pub handle : Held
    pub between : DeskNow V
    pub room : IsBelow t.desk
    pub comes : came t.desk handle between
    pub assigns : Assigns between t.slots t.endings to handle u.desk u.slots u.endings

  -- an owner, or a weak handle, came by a call of the desk's
  pub record IsOwner (by : DeskNow V → Shared → DeskNow V → Type 0) (d : DeskNow V) (h : Held)
      (e : DeskNow V) : Type 0 where
    pub owner : Shared
    pub is : h ≡ Owner owner
    pub event : by d owner e

  pub record IsWeak (by : DeskNow V → weak_handle.Weak → DeskNow V → Type 0) (d : DeskNow V) (h : Held)
      (e : DeskNow V) : Type 0 where
    pub weak : weak_handle.Weak
    pub is : h ≡ Weak weak
    pub event : by d weak e

  -- a new object's owner ([util.smartptr.shared.create])
  abbrev pub MakesIntoSlot : TableNow V → ℕ → Bool → List ℕ → V → TableNow V → Type 0
  MakesIntoSlot t to enabled fields x u =
      Comes (IsOwner (λ d h e. inner.Makes d enabled false fields x h.block h.place e)) t to u

  -- a new owner of the null pointer ([util.smartptr.shared.const])
  abbrev pub MakesNull : TableNow V → ℕ → V → TableNow V → Type 0
  MakesNull t to x u = Comes
      (IsOwner (λ d h e. inner.Makes d false true (0 ∷ 0 ∷ 0 ∷ 0 ∷ []) x h.block h.place e)) t to u

  -- a copy of a handle: it is of the same object, and points where that does ([util.smartptr.shared.const],
  -- [util.smartptr.weak.const])
  abbrev pub IsCopy : Held → DeskNow V → Held → DeskNow V → Type 0
  IsCopy (Owner h) = IsOwner
      (λ d k e. (k.block ≡ h.block) × (k.place ≡ h.place) × inner.SharesOwner d h.block h.place h.place e)
  IsCopy (Weak w) = IsWeak (λ d k e. (k.block ≡ w.block) × (k.place ≡ inner.weak_place w.block w.place)
      × inner.SharesWeakly d w.block w.place e)

  pub record Copies (t : TableNow V) (from to : ℕ) (u : TableNow V) : Type 0 where
    pub of : Held
    pub at : IsAt t from of
    pub copy : Comes (IsCopy of) t to u

  -- a weak handle of an owner's object ([util.smartptr.weak.const])
  pub record Downgrades (t : TableNow V) (from to : ℕ) (u : TableNow V) : Type 0 where
    pub of : Shared
    pub at : IsAt t from (Owner of)
    pub weak : Comes (IsWeak (λ d k e. (k.block ≡ of.block) × (k.place ≡ inner.weak_place of.block of.place)
        × inner.SharesWeakly d of.block of.place e)) t to u

  -- a lock of a weak handle; whether it got an object's owner ([util.smartptr.weak.obs])
  pub record LocksSlot (t : TableNow V) (from to : ℕ) (got : Bool) (u : TableNow V) : Type 0 where
    pub of : weak_handle.Weak
    pub at : IsAt t from (Weak of)
    pub owner : Comes (IsOwner (λ d k e. (got ≡ is_some k.block) × locks.IsOwnerOf of.block of.place got k
        × locks.LocksHandle d of.block of.place got e)) t to u

  -- a handle left its slot and the desk
  pub record Resets (t : TableNow V) (at : ℕ) (gone : Gone) (u : TableNow V) : Type 0 where
    pub of : Held
    pub was : IsAt t at of
    pub leaves : LetsGo t.desk t.endings of gone u.desk u.endings
    pub slots : u.slots ≡ slice_set t.slots at None

  -- a handle went from its slot to another, and what lay there left; a slot that it went from is vacant
  pub record MovesSlot (t : TableNow V) (from to : ℕ) (u : TableNow V) : Type 0 where
    pub of : Held
    pub at : IsAt t from of
    pub assigns : Assigns t.desk (slice_set t.slots from None) t.endings to of u.desk u.slots u.endings

  -- a field was read, or why not
  pub record ReadsSlot (t : TableNow V) (at : ℕ) (read : Result ℕ Refusal) (u : TableNow V) : Type 0 where
    pub of : Shared
    pub was : IsAt t at (Owner of)
    pub event : IsRead t.desk of.block of.place read u.desk
    pub rest : (u.slots ≡ t.slots) × (u.endings ≡ t.endings)

  -- use_count ([util.smartptr.shared.obs], [util.smartptr.weak.obs])
  abbrev pub CountsOf : DeskNow V → Held → ℕ → DeskNow V → Type 0
  CountsOf d (Owner h) n e = inner.IsUseCount d kind.Owner h.block h.place n e
  CountsOf d (Weak w) n e = inner.IsUseCount d kind.Weak w.block w.place n e

  pub record CountsSlot (t : TableNow V) (at n : ℕ) (u : TableNow V) : Type 0 where
    pub of : Held
    pub was : IsAt t at of
    pub event : CountsOf t.desk of n u.desk
    pub rest : (u.slots ≡ t.slots) × (u.endings ≡ t.endings)

  -- expired ([util.smartptr.weak.obs])
  pub record Expires (t : TableNow V) (at : ℕ) (expired : Bool) (u : TableNow V) : Type 0 where
    pub of : weak_handle.Weak
    pub was : IsAt t at (Weak of)
    pub event : inner.IsExpiry t.desk of.block of.place expired u.desk
    pub rest : (u.slots ≡ t.slots) × (u.endings ≡ t.endings)

  -- where the owner in the slot points ([util.smartptr.shared.obs])
  abbrev pub PointsTo : TableNow V → ℕ → Option Place → Type 0
  PointsTo t at p = (h : Shared) × IsAt t at (Owner h) × (p ≡ h.place)
