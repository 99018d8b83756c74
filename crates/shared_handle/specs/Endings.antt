-- What a release says, and which calls are refused.
use Rattle.std.specs.Prelude.{◌≡◌, ◌≢◌, ℕ, ◌+◌, ◌-◌, ◌<◌, ◌≤◌, Bool, true, false, cond, length, Option}
use Rattle.std.specs.Prelude.{None, Some, Result, Ok, Err}
use Rattle.control_word.specs.State.{ending, kind_of_member}
use Rattle.control_word.specs.declared.model.event.Event.TheVariants.{Leave, Read}
use Rattle.control_word.specs.declared.model.handle.Kind.{Kind}
use Rattle.control_word.specs.declared.model.handle.Kind.TheVariants.{Owner, Weak}
use Rattle.control_word.specs.declared.place.Block.{Block}
use Rattle.control_word.specs.declared.place.Place.{Place}
use Rattle.control_word.specs.declared.refusal.Refusal.{Refusal}
use Rattle.control_word.specs.declared.refusal.Refusal.TheVariants.{Limit, NotEnabled, Null, Outside}
use Rattle.control_block.specs.Desks.{AddsEvent, DeskNow, IsCleared, IsEnding, allowance_of, held_of, object_in}
use Rattle.control_block.specs.Desks.{on_latest}
use Rattle.control_block.specs.Desks.{stock_of}
use Rattle.control_word.specs.declared.shape.Shape.{Shape}
use Rattle.control_block.specs.Clearing.{TakesOut}
use Rattle.control_block.specs.Rule.{members_of}
use Rattle.shared_handle.specs.Calls.{LeavesWeakly, counting}
use Rattle.shared_handle.specs.declared.endings.Ending.{Ending}
use Rattle.shared_handle.specs.declared.endings.Left.{Left}
use Rattle.shared_handle.specs.declared.endings.Left.TheVariants.{Empty, Last, Others}

-- the place is one of the object that the handle owns
abbrev pub IsWithin : Option Block → Option Place → Type 0
IsWithin b p = (q : Place) × (p ≡ Some q) × (b ≡ Some q.block)

-- the place is there, and not in the object that the handle owns
abbrev pub IsOutside : Option Block → Option Place → Type 0
IsOutside b p = (q : Place) × (p ≡ Some q) × (b ≢ Some q.block)

-- the place is in the object that the handle owns, or why not (own)
abbrev pub IsPlaced : Option Block → Option Place → Result Place Refusal → Type 0
IsPlaced b p (Ok q) = (p ≡ Some q) × (b ≡ Some q.block)
IsPlaced b p (Err Null) = p ≡ None
IsPlaced b p (Err Outside) = IsOutside b p
IsPlaced b p (Err why) = ⊥

module _ {V : Type 0} where
  -- the ending tells how many members an object of the shape has
  abbrev pub IsOfShape : Shape → Ending V → Type 0
  IsOfShape z x = x.members ≡ members_of z

  -- the object ends in the desk's hands, with this value, and its first members, as many as are told, hold nothing
  pub record EndsInHand (d : DeskNow V) (x : Ending V) : Type 0 where
    pub ends : IsEnding d x.block.0 x.value
    pub shape : IsOfShape d.shape x
    pub few : x.cleared ≤ x.members
    pub cleared : (m : ℕ) → m < x.cleared → IsCleared d x.block.0 m

  abbrev pub IsUncleared : Ending V → Type 0
  IsUncleared x = x.cleared ≡ 0

  abbrev pub IsAllClear : Ending V → Type 0
  IsAllClear x = x.cleared ≡ x.members

  -- an owner left: an empty one, one of several, or the last, whose object ends in the desk's hands
  -- ([util.smartptr.shared.dest])
  abbrev pub IsLeft : DeskNow V → Option Block → Option Place → Left V → DeskNow V → Type 0
  IsLeft d b p Empty e = (b ≡ None) × (e ≡ counting (d.held - 1) d)
  IsLeft d b p Others e = (c : Block) × (b ≡ Some c) × AddsEvent d (Leave (on_latest d Owner p c.0) false) e
  IsLeft d b p (Last x) e = (b ≡ Some x.block) × AddsEvent d (Leave (on_latest d Owner p x.block.0) true) e
      × EndsInHand e x × IsUncleared x

  -- what it says of an owner that left, by the domain's shape, by the block of what it owned, and by the value that
  -- came out where it was the last
  abbrev pub IsLeftOf : Shape → Option Block → Option V → Left V → Type 0
  IsLeftOf z b r Empty = b ≡ None
  IsLeftOf z b r Others = (c : Block) × (b ≡ Some c) × (r ≡ None)
  IsLeftOf z b r (Last x) = (b ≡ Some x.block) × (r ≡ Some x.value) × IsUncleared x × IsOfShape z x

  -- what ends for it, if an object does, is not the one in the block
  abbrev pub IsBeside : ℕ → Left V → Type 0
  IsBeside b Empty = Unit {0}
  IsBeside b Others = Unit {0}
  IsBeside b (Last x) = x.block.0 ≢ b

  -- it is in no block in which something was ending in the desk's hands before
  abbrev pub IsApart : DeskNow V → Left V → Type 0
  IsApart d left = (b : ℕ) → (object_in d b).phase ≡ ending d.name → IsBeside b left

  -- how many more objects end for it
  abbrev pub more_ending : Left V → ℕ
  more_ending Empty = 0
  more_ending Others = 0
  more_ending (Last x) = 1

  -- what is told of a weak pointer that left: whether it was an empty one (own)
  abbrev pub IsGone : Option Block → Left V → Type 0
  IsGone b Empty = b ≡ None
  IsGone b Others = (c : Block) × (b ≡ Some c)
  IsGone b (Last x) = ⊥

  -- what a member of an object that ends held, an owner, came out, and left (own)
  pub record ClearsMember (d : DeskNow V) (x : Ending V) (m : ℕ) (left : Left V) (e : DeskNow V) : Type 0 where
    pub block : Option Block
    pub place : Option Place
    pub between : DeskNow V
    pub takes : TakesOut d x.block.0 m Owner block place between
    pub leaves : IsLeft between block place left e

  -- the same of a weak handle; whether the block of what it was on is vacant now
  pub record ClearsWeakly (d : DeskNow V) (x : Ending V) (m : ℕ) (left : Left V) (e : DeskNow V) : Type 0 where
    pub block : Option Block
    pub place : Option Place
    pub between : DeskNow V
    pub takes : TakesOut d x.block.0 m Weak block place between
    pub vacant : Bool
    pub leaves : LeavesWeakly between block place vacant e
    pub told : IsGone block left
    pub stock : length (stock_of e) ≡ length (stock_of d) + cond vacant 1 0

  -- a member that has handles of this kind was emptied
  abbrev pub ClearsOf : Kind → DeskNow V → Ending V → ℕ → Left V → DeskNow V → Type 0
  ClearsOf Owner d x m left e = ClearsMember d x m left e × (length (stock_of e) ≡ length (stock_of d))
  ClearsOf Weak d x m left e = ClearsWeakly d x m left e

  -- the first member that isn't cleared yet was emptied
  abbrev pub IsClearing : DeskNow V → Ending V → Left V → DeskNow V → Type 0
  IsClearing d x left e = ClearsOf (kind_of_member d.shape.owners x.cleared) d x x.cleared left e

  -- the ending with one member more cleared
  abbrev pub with_clear : Ending V → Ending V
  with_clear x = record x { cleared = x.cleared + 1 }

  -- a field was read, or why not (own)
  abbrev pub IsRead : DeskNow V → Option Block → Option Place → Result ℕ Refusal → DeskNow V → Type 0
  IsRead d b p (Ok n) e = (q : Place) × (p ≡ Some q) × (b ≡ Some q.block)
      × AddsEvent d (Read (on_latest d Owner (Some q) q.block.0) n) e
  IsRead d b p (Err Null) e = (p ≡ None) × (e ≡ d)
  IsRead d b p (Err Outside) e = IsOutside b p × (e ≡ d)
  IsRead d b p (Err why) e = ⊥

  -- the object has no from-this flag
  abbrev pub IsNotEnabled : DeskNow V → Option Block → Type 0
  IsNotEnabled d None = ⊥
  IsNotEnabled d (Some c) = (object_in d c.0).enabled ≡ false

  -- why an owner gives no pointer to its object: at the allowance, and else the first of these ([util.smartptr.enab];
  -- refusals: own)
  abbrev pub WhyNotThis : DeskNow V → Option Block → Option Place → Refusal → Type 0
  WhyNotThis d b p Limit = held_of d ≡ allowance_of d
  WhyNotThis d b p Null = (held_of d ≢ allowance_of d) × (p ≡ None)
  WhyNotThis d b p Outside = (held_of d ≢ allowance_of d) × IsOutside b p
  WhyNotThis d b p NotEnabled = (held_of d ≢ allowance_of d) × IsWithin b p × IsNotEnabled d b
  WhyNotThis d b p why = ⊥

  -- and when it gives one
  abbrev pub MayGiveThis : DeskNow V → Option Block → Option Place → Type 0
  MayGiveThis d None p = ⊥
  MayGiveThis d (Some c) p = (held_of d ≢ allowance_of d) × IsWithin (Some c) p
      × ((object_in d c.0).enabled ≡ true)

  abbrev pub IsThis : DeskNow V → Option Block → Option Place → Result Block Refusal → Type 0
  IsThis d b p (Ok c) = (b ≡ Some c) × MayGiveThis d b p
  IsThis d b p (Err why) = WhyNotThis d b p why

  -- why an object that ends gives no weak pointer to itself
  abbrev pub WhyNoWeakThis : DeskNow V → Block → Refusal → Type 0
  WhyNoWeakThis d b Limit = held_of d ≡ allowance_of d
  WhyNoWeakThis d b NotEnabled = (held_of d ≢ allowance_of d) × ((object_in d b.0).enabled ≡ false)
  WhyNoWeakThis d b why = ⊥
