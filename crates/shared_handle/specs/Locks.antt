-- What a lock says. It is one atomic operation, and exact at its step.
use Rattle.std.specs.Prelude.{◌≡◌, ◌≢◌, ◌+◌, ◌==◌, Bool, true, false, not, Option, None, Some}
use Rattle.std.specs.Prelude.{Result, Ok, Err}
use Rattle.control_word.specs.State.{count}
use Rattle.control_word.specs.declared.model.event.Event.TheVariants.{Lock}
use Rattle.control_word.specs.declared.model.handle.Kind.TheVariants.{Owner, Weak}
use Rattle.control_word.specs.declared.place.Block.{Block}
use Rattle.control_word.specs.declared.place.Place.{Place}
use Rattle.control_word.specs.declared.refusal.Refusal.{Refusal}
use Rattle.control_word.specs.declared.refusal.Refusal.TheVariants.{BadWeak, Limit}
use Rattle.control_block.specs.Desks.{AddsEvent, DeskNow, HasHandle, allowance_of, held_of, latest_of, on_latest}
use Rattle.control_block.specs.Desks.{state_of}
use Rattle.control_block.specs.LockCalls.{state_before}
use Rattle.control_block.specs.declared.handles.Shared.{Shared}
use Rattle.shared_handle.specs.Calls.{counting}

-- the owner that a lock got points where the weak handle does, and else it is empty with a null place
-- ([util.smartptr.weak.obs])
abbrev pub IsOwnerOf : Option Block → Option Place → Bool → Shared → Type 0
IsOwnerOf b p true h = (h.block ≡ b) × (h.place ≡ p)
IsOwnerOf b p false h = (h.block ≡ None) × (h.place ≡ None)

module _ {V : Type 0} where
  -- a lock of an object got an owner just where one remained at its step ([util.smartptr.weak.obs])
  abbrev pub IsLock : DeskNow V → Block → Option Place → Bool → DeskNow V → Type 0
  IsLock d b p got e = AddsEvent d (Lock (on_latest d Weak p b.0) got) e
      × (got ≡ not (count (state_before e) (latest_of d b.0) == 0))

  -- the same of a weak handle that isn't empty
  abbrev pub IsLockBy : DeskNow V → Option Block → Option Place → Bool → DeskNow V → Type 0
  IsLockBy d None p got e = ⊥
  IsLockBy d (Some b) p got e = IsLock d b p got e

  -- the same of any weak handle: of an empty one there is no owner, and no event
  abbrev pub LocksHandle : DeskNow V → Option Block → Option Place → Bool → DeskNow V → Type 0
  LocksHandle d None p got e = (got ≡ false) × (e ≡ counting (d.held + 1) d)
  LocksHandle d (Some b) p got e = IsLock d b p got e

  -- the desk has an owner of the object in the block
  abbrev pub HasOwner : DeskNow V → Option Block → Type 0
  HasOwner d None = ⊥
  HasOwner d (Some b) = (p : Option Place) × HasHandle d Owner p b.0

  -- the desk has seen the object without owner, or there is none
  abbrev pub SawNoOwner : DeskNow V → Option Block → Type 0
  SawNoOwner d None = Unit {0}
  SawNoOwner d (Some b) = count (state_of d) (latest_of d b.0) ≡ 0

  -- a shared pointer from a weak one, or why there is none: at the allowance, and else expired at its step
  -- ([util.smartptr.shared.const])
  abbrev pub IsUpgrade : DeskNow V → Option Block → Option Place → Result Shared Refusal → DeskNow V → Type 0
  IsUpgrade d None p (Ok h) e = ⊥
  IsUpgrade d (Some b) p (Ok h) e = IsLock d b p true e × (h.block ≡ Some b) × (h.place ≡ p)
  IsUpgrade d b p (Err Limit) e = (held_of d ≡ allowance_of d) × (e ≡ d)
  IsUpgrade d None p (Err BadWeak) e = (held_of d ≢ allowance_of d) × (e ≡ d)
  IsUpgrade d (Some b) p (Err BadWeak) e = (held_of d ≢ allowance_of d) × IsLock d b p false e
  IsUpgrade d b p (Err why) e = ⊥
