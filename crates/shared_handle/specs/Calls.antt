-- What the calls on handles say. An empty handle has no object: it touches no word and makes no event, and is only
-- counted.
use Rattle.std.specs.Prelude.{◌≡◌, ◌⊎◌, ℕ, ◌+◌, ◌-◌, Bool, true, false, cond, ◌&&◌, nat_lt, nat_le}
use Rattle.std.specs.Prelude.{List, Option, None, Some}
use Rattle.control_word.specs.Events.{origin, place_at}
use Rattle.control_word.specs.Handles.{IsPointer, handle, owner_before}
use Rattle.control_word.specs.Limits.{most_blocks}
use Rattle.control_word.specs.State.{count}
use Rattle.control_word.specs.declared.model.event.Event.TheVariants.{Count, Expired, Make, Share, WeakLeave, WeakShare}
use Rattle.control_word.specs.declared.model.handle.NumberedHandle.{NumberedHandle}
use Rattle.control_word.specs.declared.model.handle.Kind.{Kind}
use Rattle.control_word.specs.declared.model.handle.Kind.TheVariants.{Owner, Weak}
use Rattle.control_word.specs.declared.place.Block.{Block}
use Rattle.control_word.specs.declared.place.Place.{Place}
use Rattle.control_word.specs.declared.handle.Handle.{Handle}
use Rattle.control_block.specs.Desks.{AddsEvent, DeskNow, allowance_of, latest_of, on_latest, state_of}

-- what a handle of this kind, with this block and place, is on
abbrev pub IsOn : Kind → Option Block → Option Place → Option Handle → Type 0
IsOn k b p None = b ≡ None
IsOn k b p (Some of) = (of.kind ≡ k) × (b ≡ Some of.block) × (of.place ≡ p)

-- where a weak handle of this points: an empty one has a null place ([util.smartptr.weak.const]; the null place: own)
abbrev pub weak_place : Option Block → Option Place → Option Place
weak_place None p = None
weak_place (Some b) p = p

-- the place q is the first field of the object in the block
abbrev pub IsOfThis : Option Block → Option Place → Type 0
IsOfThis None q = ⊥
IsOfThis (Some b) q = q ≡ place_at b.0

-- an owner with this block and place may give one with place q: its own place, the first field of its object, or any
-- proper place ([util.smartptr.shared.const])
abbrev pub MayGive : Option Block → Option Place → Option Place → Type 0
MayGive b p q = (q ≡ p) ⊎ (IsOfThis b q ⊎ IsPointer q)

-- the place is a field of a block
abbrev pub is_field : Place → Bool
is_field p = nat_lt 0 p.block.0 && nat_le p.block.0 most_blocks && nat_lt p.field 4

-- where a pointer to a place points: null for what is no field of a block, which no call hands out (own)
abbrev pub pointed : Option Place → Option Place
pointed None = None
pointed (Some p) = cond (is_field p) (Some p) None

-- owner order goes by blocks, empty first ([util.smartptr.shared.obs], [util.smartptr.weak.obs]; by block: own)
abbrev pub by_number : Option Block → NumberedHandle
by_number None = handle Owner None None
by_number (Some b) = handle Owner (Some b.0) None

abbrev pub comes_before : Option Block → Option Block → Bool
comes_before a b = owner_before (λ (n : ℕ). n) (by_number a) (by_number b)

module _ {V : Type 0} where
  -- the desk with another number of handles, and nothing else changed
  abbrev pub counting : ℕ → DeskNow V → DeskNow V
  counting n d = record d { held = n }

  -- an owner with place q came from one with place p ([util.smartptr.shared.const])
  abbrev pub SharesOwner : DeskNow V → Option Block → Option Place → Option Place → DeskNow V → Type 0
  SharesOwner d None p q e = e ≡ counting (d.held + 1) d
  SharesOwner d (Some b) p q e = AddsEvent d (Share (on_latest d Owner p b.0) q) e

  -- a weak handle with place q came ([util.smartptr.weak.const])
  abbrev pub SharesWeakly : DeskNow V → Option Block → Option Place → DeskNow V → Type 0
  SharesWeakly d None q e = e ≡ counting (d.held + 1) d
  SharesWeakly d (Some b) q e = AddsEvent d (WeakShare (latest_of d b.0) q) e

  -- a weak handle left ([util.smartptr.weak.dest]); whether its block is vacant now
  abbrev pub LeavesWeakly : DeskNow V → Option Block → Option Place → Bool → DeskNow V → Type 0
  LeavesWeakly d None p vacant e = (e ≡ counting (d.held - 1) d) × (vacant ≡ false)
  LeavesWeakly d (Some b) p vacant e = AddsEvent d (WeakLeave (on_latest d Weak p b.0) vacant) e

  -- use_count ([util.smartptr.shared.obs], [util.smartptr.weak.obs]): for a desk that has the whole allowance the count
  -- itself
  abbrev pub IsUseCount : DeskNow V → Kind → Option Block → Option Place → ℕ → DeskNow V → Type 0
  IsUseCount d k None p n e = (n ≡ 0) × (e ≡ d)
  IsUseCount d k (Some b) p n e =
      AddsEvent d (Count (on_latest d k p b.0) n) e
      × (allowance_of e ≡ d.shape.allowance → n ≡ count (state_of e) (latest_of d b.0))

  -- expired ([util.smartptr.weak.obs])
  abbrev pub IsExpiry : DeskNow V → Option Block → Option Place → Bool → DeskNow V → Type 0
  IsExpiry d None p expired e = (expired ≡ true) × (e ≡ d)
  IsExpiry d (Some b) p expired e = AddsEvent d (Expired (on_latest d Weak p b.0) expired) e

  -- a new object, and its owner ([util.smartptr.shared.create], [util.smartptr.shared.const])
  abbrev pub Makes : DeskNow V → Bool → Bool → List ℕ → V → Option Block → Option Place
      → DeskNow V → Type 0
  Makes d enabled null fields x None p e = ⊥
  Makes d enabled null fields x (Some b) p e = (p ≡ origin b.0 null) × AddsEvent d (Make b enabled null fields x) e
