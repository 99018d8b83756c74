-- What the calls on cells say ([util.smartptr.atomic.shared], [util.smartptr.atomic.weak]).
use Rattle.std.specs.Prelude.{◌≡◌, ◌+◌, Bool, cond, length, Option}
use Rattle.control_word.specs.declared.model.event.Cell.{Cell}
use Rattle.control_word.specs.declared.model.event.Event.TheVariants.{Load, Same, Swap}
use Rattle.control_word.specs.declared.model.handle.Kind.{Kind}
use Rattle.control_word.specs.declared.model.handle.Kind.TheVariants.{Owner, Weak}
use Rattle.control_word.specs.declared.place.Block.{Block}
use Rattle.control_word.specs.declared.place.Place.{Place}
use Rattle.control_block.specs.CellCalls.{handle_in}
use Rattle.control_block.specs.Desks.{AddsEvent, DeskNow, stock_of}
use Rattle.shared_handle.specs.Calls.{LeavesWeakly}
use Rattle.shared_handle.specs.Endings.{IsGone, IsLeft}
use Rattle.shared_handle.specs.declared.endings.Left.{Left}

module _ {V : Type 0} where
  -- cell c holds this handle now, and the desk has a copy
  abbrev pub Loads : DeskNow V → Cell → Kind → Option Block → Option Place → DeskNow V → Type 0
  Loads d c k b p e = AddsEvent d (Load c (handle_in e k b p)) e

  -- whether cell c holds a pointer equivalent to the desk's handle (b, p)
  abbrev pub TellsHeld : DeskNow V → Cell → Kind → Option Block → Option Place → Bool → DeskNow V → Type 0
  TellsHeld d c k b p same e = AddsEvent d (Same c (handle_in d k b p) same) e

  -- the desk's handle (b, p) went into cell c, and the cell's, (a, q), came out
  abbrev pub Exchanges : DeskNow V → Cell → Kind → Option Block → Option Place → Option Block → Option Place
      → DeskNow V → Type 0
  Exchanges d c k b p a q e = AddsEvent d (Swap c (handle_in d k b p) (handle_in e k a q)) e

  -- the same, and then what came out, (block, place), left
  pub record Stores (d : DeskNow V) (c : Cell) (b : Option Block) (p : Option Place) (left : Left V)
      (e : DeskNow V) : Type 0 where
    pub block : Option Block
    pub place : Option Place
    pub between : DeskNow V
    pub exchanges : Exchanges d c Owner b p block place between
    pub leaves : IsLeft between block place left e

  -- the same of a weak one; whether the block of what came out is vacant now, and in the desk's store
  pub record StoresWeakly (d : DeskNow V) (c : Cell) (b : Option Block) (p : Option Place) (left : Left V)
      (e : DeskNow V) : Type 0 where
    pub block : Option Block
    pub place : Option Place
    pub between : DeskNow V
    pub exchanges : Exchanges d c Weak b p block place between
    pub vacant : Bool
    pub leaves : LeavesWeakly between block place vacant e
    pub told : IsGone block left
    pub stock : length (stock_of e) ≡ length (stock_of d) + cond vacant 1 0
