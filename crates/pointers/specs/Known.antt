-- What is known of the handles that a desk gave out. A desk goes by what it was when it was opened.
use Rattle.std.specs.Prelude.{◌≡◌, ℕ, List, [], ◌∷◌, ◌++◌, slice_get, Option, None, Some}
use Rattle.control_word.specs.declared.model.event.Entry.{Entry}
use Rattle.control_word.specs.declared.place.Block.{Block}
use Rattle.control_word.specs.declared.place.Place.{Place}
use Rattle.control_block.specs.CellCalls.{object_by}
use Rattle.control_block.specs.Desks.{DeskNow, allowance_of, held_of, latest_of, object_in}
use Rattle.control_block.specs.HandleLists.{IsHeldByDesk}
use Rattle.control_block.specs.Rule.{opening_of}
use Rattle.control_word.specs.Histories.{IsLegal}
use Rattle.control_block.specs.Own.{KeepsLatest}
use Rattle.control_block.specs.declared.handles.Held.{Held}
use Rattle.control_block.specs.declared.handles.Held.TheVariants.{Owner, Weak}
use Rattle.pointers.specs.declared.known.Known.{Known}

-- the block of what a handle is of
abbrev pub block_of : Held → Option Block
block_of (Owner h) = h.block
block_of (Weak w) = w.block

-- and where it points
abbrev pub place_of : Held → Option Place
place_of (Owner h) = h.place
place_of (Weak w) = w.place

module _ {V : Type 0} where
  -- it is the same desk, and its history begins with all that it had seen
  pub record GoesOn (d e : DeskNow V) : Type 0 where
    pub same : (e.domain ≡ d.domain) × (e.shape ≡ d.shape) × (e.name ≡ d.name)
    pub later : List (Entry V)
    pub seen : e.seen ≡ later ++ d.seen

  -- it goes on legally, no block in which it had a handle is used again, and it has the allowance that it had
  pub record Later (d e : DeskNow V) : Type 0 where
    pub goes : GoesOn d e
    pub legal : IsLegal (opening_of d.shape) d.seen → IsLegal (opening_of d.shape) e.seen
    pub latest : KeepsLatest d e
    pub allowance : allowance_of e ≡ allowance_of d

  -- the object last made in the block is the one that it was
  abbrev pub KeepsObject : Option Block → DeskNow V → DeskNow V → Type 0
  KeepsObject None d e = Unit {0}
  KeepsObject (Some b) d e = latest_of e b.0 ≡ latest_of d b.0

  -- the desk when the handle came
  abbrev pub desk_at : DeskNow V → Known V → DeskNow V
  desk_at o c = record o { seen = c.seen }

  -- this is known of a handle that has just come
  abbrev pub known_now : Held → DeskNow V → Known V
  known_now h d = record { handle = h; seen = d.seen }

  -- the desk goes on from when the handle came, and the handle is of the object that it was of
  pub record Lives (o : DeskNow V) (c : Known V) (d : DeskNow V) : Type 0 where
    pub goes : GoesOn (desk_at o c) d
    pub object : KeepsObject (block_of c.handle) (desk_at o c) d

  abbrev pub AllLive : DeskNow V → List (Option (Known V)) → DeskNow V → Type 0
  AllLive o cs d = (i : ℕ) (c : Known V) → slice_get cs i ≡ Some (Some c) → Lives o c d

  -- the handles that didn't leave
  abbrev pub living : List (Option (Known V)) → List Held
  living [] = []
  living (None ∷ cs) = living cs
  living (Some c ∷ cs) = c.handle ∷ living cs

  -- the block of what a handle is of, where it points, and the object
  abbrev pub owned : Known V → Option Block
  owned c = block_of c.handle

  abbrev pub pointed : Known V → Option Place
  pointed c = place_of c.handle

  abbrev pub object : DeskNow V → Known V → Option ℕ
  object o c = object_by (latest_of (desk_at o c)) (owned c)

  -- the fields that the object was made with
  abbrev pub fields_in : DeskNow V → Option Block → List ℕ
  fields_in d None = []
  fields_in d (Some b) = (object_in d b.0).fields

  abbrev pub fields : DeskNow V → Known V → List ℕ
  fields o c = fields_in (desk_at o c) (owned c)

  -- both handles are of one object, or of none
  pub record AreOfOne (o : DeskNow V) (a b : Known V) : Type 0 where
    pub block : owned b ≡ owned a
    pub object : object o b ≡ object o a
    pub fields : fields o b ≡ fields o a

  -- a copy of a pointer that may be empty: of the same object, and it points where this function tells
  abbrev pub IsCopyOf : DeskNow V → (Known V → Option Place) → Option (Known V) → Option (Known V) → Type 0
  IsCopyOf o place None None = Unit {0}
  IsCopyOf o place (Some a) (Some b) = AreOfOne o a b × (pointed b ≡ place a)
  IsCopyOf o place _ _ = ⊥

  -- since the handle came, and while the desk held it, the desk did this: it was one desk, and became the other
  pub record Since (o : DeskNow V) (c : Known V) (Does : DeskNow V → DeskNow V → Type 0) : Type 0 where
    pub before : DeskNow V
    pub after : DeskNow V
    pub lives : Lives o c before
    pub holds : IsHeldByDesk before c.handle
    pub allowance : allowance_of before ≡ allowance_of o
    pub does : Does before after

  -- the desk has all the handles that it may have (own)
  abbrev pub IsAtAllowance : DeskNow V → Type 0
  IsAtAllowance d = held_of d ≡ allowance_of d
