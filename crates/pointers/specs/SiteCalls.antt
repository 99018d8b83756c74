-- What the calls on a cell say, by its kind and by how they see it ([util.smartptr.atomic.shared],
-- [util.smartptr.atomic.weak]).
use Rattle.std.specs.Prelude.{◌⊎◌, Bool, Err, Result, Option, None, Some}
use Rattle.control_word.specs.declared.model.handle.Kind.{Kind}
use Rattle.control_word.specs.declared.model.handle.Kind.TheVariants.{Owner, Weak}
use Rattle.control_block.specs.Desks.{DeskNow}
use Rattle.pointers.specs.Cells.{ExchangedAt, FoundAt, IsOwnerOf, LoadedAt, LookedEmptyAt, LookedForAt, StoredInto}
use Rattle.pointers.specs.Compares.{ComparedAt}
use Rattle.pointers.specs.Faults.{WhyNoMore, WhyNotMade, WhyNotVisited}
use Rattle.pointers.specs.Places.{WhyNotDoneAt, WhyNotLookedAt, cell_at, spot_of}
use Rattle.pointers.specs.Sites.{Site, owner_of}
use Rattle.pointers.specs.Values.{IsNotVisited, IsUpdatedAt}
use Rattle.pointers.specs.declared.fault.Fault.{Fault}
use Rattle.pointers.specs.declared.fault.call.Call.{Call}
use Rattle.pointers.specs.declared.fault.call.Call.TheVariants.{CompareExchange, Holds, Load, Lock}
use Rattle.pointers.specs.declared.fault.call.Spot.{Spot}
use Rattle.pointers.specs.declared.known.Known.{Known}

module _ {V : Type 0} where
  -- the desk had a copy of what it holds
  abbrev pub Loaded : DeskNow V → Kind → Site V → Option (Known V) → Type 0
  Loaded o k s got = LoadedAt o (owner_of s) (cell_at o k s) k got

  -- a look told whether it holds a pointer equivalent to this one, or an empty one
  abbrev pub LookedFor : DeskNow V → Kind → Site V → Option (Known V) → Bool → Type 0
  LookedFor o k s None same = LookedEmptyAt o (owner_of s) (cell_at o k s) k same
  LookedFor o k s (Some mine) same = LookedForAt o (owner_of s) (cell_at o k s) k mine same

  -- the pointer went in, and what it held came out
  abbrev pub Exchanged : DeskNow V → Kind → Site V → Option (Known V) → Option (Known V) → Type 0
  Exchanged o k s new got = ExchangedAt o (owner_of s) (cell_at o k s) k new got

  -- the pointer went in, and what it held left
  abbrev pub Stored : DeskNow V → Kind → Site V → Option (Known V) → Type 0
  Stored o k s new = StoredInto o (owner_of s) (cell_at o k s) k new

  -- it was compared with what was expected, and what was desired went in where they were equivalent
  abbrev pub Compared : DeskNow V → Kind → Site V → Bool → Option (Known V) → Option (Known V) → Bool
      → Option (Known V) → Option (Known V) → Type 0
  Compared o k s weak hoped new swapped hoped' new' =
      ComparedAt o (owner_of s) (cell_at o k s) k weak hoped new swapped hoped' new'

  -- it held this pointer, by a load or a look
  abbrev pub Found : DeskNow V → Kind → Site V → Option (Known V) → Type 0
  Found o k s got = FoundAt o (owner_of s) (cell_at o k s) k got

  -- an owner of what it held came, just where one remained
  abbrev pub Locked : DeskNow V → Site V → Option (Known V) → Type 0
  Locked o s got = (w : Option (Known V)) × Loaded o Weak s w × IsOwnerOf o w got

  -- one step put in a new object's pointer, by what was answered of a copy of the value that was there
  abbrev pub IsUpdated : DeskNow V → (V → V → Type 0) → Site V → (Option V → Result (Option V) Fault → Type 0) → Type 0
  IsUpdated o copies s Answers = IsUpdatedAt o copies (owner_of s) (cell_at o Owner s) Answers

  -- why a call on it wasn't done
  abbrev pub WhyNotDone : DeskNow V → Kind → Site V → (Spot → Call) → Fault → Type 0
  WhyNotDone o k s call why = WhyNotDoneAt o k s (call (spot_of k s)) why

  abbrev pub WhyNotLooked : DeskNow V → Kind → Site V → (Spot → Call) → Fault → Type 0
  WhyNotLooked o k s call why = WhyNotLookedAt o k s (call (spot_of k s)) why

  -- why it wasn't looked for that pointer there; an empty one takes room
  abbrev pub WhyNotLookedFor : DeskNow V → Kind → Site V → Option (Known V) → Fault → Type 0
  WhyNotLookedFor o k s None why = WhyNotDone o k s Holds why
  WhyNotLookedFor o k s (Some mine) why = WhyNotLooked o k s Holds why

  -- why nothing was found there: neither the look nor the load was done
  abbrev pub WhyNotFound : DeskNow V → Kind → Site V → Fault → Type 0
  WhyNotFound o k s why = WhyNotLooked o k s Holds why ⊎ WhyNotDone o k s Load why

  -- why no owner came of a place for weak pointers: there was no load, or, of what was loaded, no lock
  abbrev pub WhyNotLocked : DeskNow V → Site V → Fault → Type 0
  WhyNotLocked o s why =
      WhyNotDone o Weak s Load why ⊎ ((w : Known V) × Loaded o Weak s (Some w) × WhyNoMore o (Some w) Lock why)

  -- why no value was found at a place: no pointer was, or the value of the one that was loaded wasn't copied
  abbrev pub WhyNoValue : DeskNow V → Site V → Fault → Type 0
  WhyNoValue o s why =
      WhyNotFound o Owner s why ⊎ ((c : Known V) × Loaded o Owner s (Some c) × WhyNotVisited c why)

  -- why it wasn't updated: no load was done, no copy was made of the value of what the cell held, the answer was so, or
  -- no object was made of it, or no compare was done
  abbrev pub WhyNotUpdated : DeskNow V → Site V → (Option V → Result (Option V) Fault → Type 0) → Fault → Type 0
  WhyNotUpdated o s Answers why =
      WhyNotDone o Owner s Load why
      ⊎ (IsNotVisited o (owner_of s) (cell_at o Owner s) why
      ⊎ (((old : Option V) × Answers old (Err why))
      ⊎ (WhyNotMade why ⊎ WhyNotDone o Owner s CompareExchange why)))
