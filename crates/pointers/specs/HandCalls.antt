-- What the calls of a desk that is held say: of the desk as it was, and as it is then.
use Rattle.std.specs.Prelude.{◌≡◌, ◌⊎◌, ℕ, ◌+◌, ◌<◌, Bool, true, false, List, [], Option, None, Some}
use Rattle.control_word.specs.Handles.{equivalent}
use Rattle.control_word.specs.declared.model.event.Cell.{Cell}
use Rattle.control_word.specs.declared.model.handle.Kind.{Kind}
use Rattle.control_word.specs.declared.model.handle.Kind.TheVariants.{Owner}
use Rattle.control_word.specs.declared.place.Block.{Block}
use Rattle.control_word.specs.declared.place.Place.{Place}
use Rattle.control_word.specs.declared.refusal.Refusal.{Refusal}
use Rattle.control_word.specs.declared.refusal.Refusal.TheVariants.{BadWeak, Full, Limit}
use Rattle.control_block.specs.CellCalls.{handle_in}
use Rattle.control_block.specs.Desks.{DeskNow, allowance_of, held_of, stock_of}
use Rattle.control_block.specs.Shelf.{Unshelved}
use Rattle.atomic_cells.specs.Cells.{Exchanges, Loads, Stores}
use Rattle.atomic_cells.specs.Compares.{Compares}
use Rattle.shared_handle.specs.Calls.{Makes, SharesOwner, SharesWeakly}
use Rattle.shared_handle.specs.Endings.{IsLeft}
use Rattle.shared_handle.specs.Locks.{IsLock}
use Rattle.shared_handle.specs.declared.endings.Left.{Left}
use Rattle.pointers.specs.Cells.{CameTo, block_by, place_by}
use Rattle.pointers.specs.Known.{IsAtAllowance, Since, owned, pointed}
use Rattle.pointers.specs.Objects.{FindsNoOwner}
use Rattle.pointers.specs.Places.{WhyNoCell, spot_of}
use Rattle.pointers.specs.Sites.{Site}
use Rattle.pointers.specs.declared.fault.Fault.{Fault}
use Rattle.pointers.specs.declared.fault.Fault.TheVariants.{Crowded}
use Rattle.pointers.specs.declared.fault.call.Call.{Call}
use Rattle.pointers.specs.declared.fault.call.Spot.{Spot}
use Rattle.pointers.specs.declared.known.Known.{Known}

module _ {V : Type 0} where
  -- only the number of handles is another
  abbrev pub IsButCount : DeskNow V → DeskNow V → Type 0
  IsButCount d e = e ≡ record d { held = e.held }

  -- blocks came from the shelf, or none
  abbrev pub Restocks : DeskNow V → DeskNow V → Type 0
  Restocks d e = (e ≡ d) ⊎ ((n : ℕ) × Unshelved n d e)

  -- an owner of a new object came ([util.smartptr.shared.create])
  abbrev pub MakesNow : DeskNow V → Bool → List ℕ → V → Known V → DeskNow V → Type 0
  MakesNow d enabled fields x r e =
      (m : DeskNow V) × Restocks d m × Makes m enabled false fields x (owned r) (pointed r) e × (r.seen ≡ e.seen)

  -- why none was made: the desk has all handles that it may have, or else no vacant block
  abbrev pub NotMadeNow : DeskNow V → Refusal → Type 0
  NotMadeNow e why = ((why ≡ Limit) × IsAtAllowance e) ⊎ ((why ≡ Full) × (IsAtAllowance e → ⊥) × (stock_of e ≡ []))

  -- one owner more came ([util.smartptr.shared.const])
  abbrev pub SharesNow : DeskNow V → Known V → Known V → DeskNow V → Type 0
  SharesNow d c r e = SharesOwner d (owned c) (pointed c) (pointed r) e × (r.seen ≡ e.seen)

  -- a weak pointer came ([util.smartptr.weak.const])
  abbrev pub SharesWeaklyNow : DeskNow V → Known V → Known V → DeskNow V → Type 0
  SharesWeaklyNow d c r e = SharesWeakly d (owned c) (pointed c) e × (r.seen ≡ e.seen)

  -- the owner left, which may have been the last ([util.smartptr.shared.dest])
  abbrev pub LeavesNow : DeskNow V → Known V → DeskNow V → Type 0
  LeavesNow d c e = (left : Left V) × IsLeft d (owned c) (pointed c) left e

  -- a lock of a weak pointer found an owner, which came just then, or none ([util.smartptr.weak.obs])
  abbrev pub Locks : DeskNow V → Known V → Option (Known V) → DeskNow V → Type 0
  Locks d w None e = FindsNoOwner d (owned w) (pointed w) e
  Locks d w (Some r) e = (b : Block) × (owned w ≡ Some b) × IsLock d b (pointed w) true e × (r.seen ≡ e.seen)

  -- why there was none
  abbrev pub LocksNot : DeskNow V → Known V → Refusal → DeskNow V → Type 0
  LocksNot d w Limit e = IsAtAllowance d × (e ≡ d)
  LocksNot d w BadWeak e = FindsNoOwner d (owned w) (pointed w) e
  LocksNot d w why e = ⊥

  -- cell x held this then, and the desk got a copy
  abbrev pub LoadsNow : DeskNow V → Cell → Option (Known V) → DeskNow V → Type 0
  LoadsNow d x got e = Loads d x Owner (block_by got) (place_by got) e × CameTo got e

  -- the pointer went into cell x, and what that held left
  abbrev pub StoresNow : DeskNow V → Cell → Option (Known V) → DeskNow V → Type 0
  StoresNow d x new e = (left : Left V) × Stores d x (block_by new) (place_by new) left e

  -- the pointer went into cell x, and what that held came out
  abbrev pub ExchangesNow : DeskNow V → Cell → Option (Known V) → Option (Known V) → DeskNow V → Type 0
  ExchangesNow d x new got e =
      Exchanges d x Owner (block_by new) (place_by new) (block_by got) (place_by got) e × CameTo got e

  -- the handle (b, q) at desk e is equivalent to (hb, hp) at desk d ([util.smartptr.atomic.shared])
  abbrev pub are_alike : DeskNow V → Option Block → Option Place → DeskNow V → Option Block → Option Place → Bool
  are_alike d hb hp e b q = equivalent (handle_in e Owner b q) (handle_in d Owner hb hp)

  -- cell x was compared with (hb, hp), and held its like: (b, p) went into it, and what it held left
  pub record SwapsNow (d : DeskNow V) (x : Cell) (weak : Bool) (hb : Option Block) (hp : Option Place)
      (b : Option Block) (p : Option Place) (left : Left V) (e : DeskNow V) : Type 0 where
    pub block : Option Block
    pub place : Option Place
    pub between : DeskNow V
    pub compares : Compares d x Owner hb hp b p true block place weak between
    pub alike : are_alike d hb hp between block place ≡ true
    pub leaves : IsLeft between block place left e

  -- cell x was compared with (hb, hp), and held something else, or the weak form failed: the desk got a copy of it
  pub record DiffersNow (d : DeskNow V) (x : Cell) (weak : Bool) (hb : Option Block) (hp : Option Place)
      (b : Option Block) (p : Option Place) (got : Option (Known V)) (e : DeskNow V) : Type 0 where
    pub compares : Compares d x Owner hb hp b p false (block_by got) (place_by got) weak e
    pub unlike : (are_alike d hb hp e (block_by got) (place_by got) ≡ false) ⊎ (weak ≡ true)
    pub came : CameTo got e

  -- the same, by what is found: none where they were swapped
  abbrev pub FindsNow : DeskNow V → Cell → Bool → Option (Known V) → Option (Known V) → Option (Option (Known V))
      → DeskNow V → Type 0
  FindsNow d x weak hoped new None e =
      (left : Left V) × SwapsNow d x weak (block_by hoped) (place_by hoped) (block_by new) (place_by new) left e
  FindsNow d x weak hoped new (Some got) e =
      DiffersNow d x weak (block_by hoped) (place_by hoped) (block_by new) (place_by new) got e

  -- the pointer left, if there is one
  abbrev pub LeavesIfSome : DeskNow V → Option (Known V) → DeskNow V → Type 0
  LeavesIfSome d None e = e ≡ d
  LeavesIfSome d (Some c) e = LeavesNow d c e

  -- the same, by what is answered: where they were swapped, nothing is desired any more. Else what is expected now is
  -- the copy, and what was expected left
  abbrev pub ComparesNow : DeskNow V → Cell → Bool → Option (Known V) → Option (Known V) → Bool → Option (Known V)
      → Option (Known V) → DeskNow V → Type 0
  ComparesNow d x weak hoped new true hoped' new' e =
      FindsNow d x weak hoped new None e × (hoped' ≡ hoped) × (new' ≡ None)
  ComparesNow d x weak hoped new false hoped' new' e =
      (m : DeskNow V) × FindsNow d x weak hoped new (Some hoped') m × LeavesIfSome m hoped e × (new' ≡ new)

  -- how many handles a pointer needs for itself in a compare: one where it is empty
  abbrev pub needs : Option (Known V) → ℕ
  needs None = 1
  needs (Some c) = 0

  -- the desk may not have so many handles more: one for a copy of what the cell holds, and one for each empty pointer
  abbrev pub LacksRoom : DeskNow V → Option (Known V) → Option (Known V) → Type 0
  LacksRoom d hoped new = allowance_of d < held_of d + (1 + (needs hoped + needs new))

  -- why a call on a cell wasn't done: there is none, or the desk had no room
  abbrev pub WhyNotNow : DeskNow V → Kind → Site V → (Spot → Call) → Type 0 → Fault → Type 0
  WhyNotNow o k s call Crowds why =
      WhyNoCell o k s (call (spot_of k s)) why
      ⊎ ((why ≡ Crowded (call (spot_of k s))) × Crowds)

  -- since the pointer came, a copy of it did, by one step of the desk
  abbrev pub CameAsCopy : DeskNow V → Known V → Known V → Type 0
  CameAsCopy o c r = Since o c (λ d e. SharesNow d c r e)

  -- a weak pointer to its object did
  abbrev pub CameAsWeak : DeskNow V → Known V → Known V → Type 0
  CameAsWeak o c r = Since o c (λ d e. SharesWeaklyNow d c r e)

  -- an owner did, by a lock of the weak pointer
  abbrev pub CameByLock : DeskNow V → Known V → Known V → Type 0
  CameByLock o w r = Since o w (λ d e. Locks d w (Some r) e)
