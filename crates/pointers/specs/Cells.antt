-- What the calls on cells say, by what is known of handles ([util.smartptr.atomic.shared],
-- [util.smartptr.atomic.weak]).
use Rattle.std.specs.Prelude.{◌≡◌, ◌⊎◌, ℕ, suc, zero, ◌+◌, ◌<◌, Bool, true, Option, None, Some}
use Rattle.control_word.specs.declared.model.event.Cell.{Cell}
use Rattle.control_word.specs.declared.model.handle.Kind.{Kind}
use Rattle.control_word.specs.declared.model.handle.Kind.TheVariants.{Owner, Weak}
use Rattle.control_word.specs.declared.place.Block.{Block}
use Rattle.control_word.specs.declared.place.Place.{Place}
use Rattle.control_block.specs.Desks.{DeskNow}
use Rattle.control_block.specs.declared.handles.Held.{Held}
use Rattle.control_block.specs.declared.handles.Held.TheVariants as held
use Rattle.atomic_cells.specs.Cells.{Exchanges, Loads, Stores, StoresWeakly, TellsHeld}
use Rattle.atomic_cells.specs.Sites.{shared_cell, weak_cell}
use Rattle.atomic_cells.specs.declared.sites.SharedSite.{SharedSite}
use Rattle.atomic_cells.specs.declared.sites.SharedSite.TheVariants as shared
use Rattle.atomic_cells.specs.declared.sites.WeakSite.{WeakSite}
use Rattle.atomic_cells.specs.declared.sites.WeakSite.TheVariants as weak
use Rattle.shared_handle.specs.Piles.{gone_of}
use Rattle.shared_handle.specs.declared.endings.Left.{Left}
use Rattle.shared_handle.specs.declared.pile.Gone.{Gone}
use Rattle.pointers.specs.Beside.{Stays}
use Rattle.pointers.specs.Known.{AreOfOne, Since, desk_at, owned, pointed}
use Rattle.pointers.specs.Objects.{FindsNoOwner}
use Rattle.atomic_cells.specs.declared.sites.SharedMember.TheVariants.{First, Next}
use Rattle.pointers.specs.declared.known.Known.{Known}

-- the block, 0 where there is none
abbrev pub block_or : Option Block → Block
block_or None = record { 0 = 0 }
block_or (Some b) = b

-- a member for owners of the object in the block, by its number, and a weak one
abbrev pub owner_site : Block → ℕ → SharedSite
owner_site b zero = shared.Of b First
owner_site b (suc zero) = shared.Of b Next
owner_site b (suc (suc n)) = shared.More b n

abbrev pub weak_site : Block → ℕ → WeakSite
weak_site b zero = weak.Up b
weak_site b (suc n) = weak.More b n

-- the handle is an owner of the object in the block
abbrev pub OwnsBlock : Held → Block → Type 0
OwnsBlock (held.Owner h) b = h.block ≡ Some b
OwnsBlock (held.Weak w) b = ⊥

module _ {V : Type 0} where
  -- the block of what is known, and where it points; of an empty one none
  abbrev pub block_by : Option (Known V) → Option Block
  block_by None = None
  block_by (Some c) = owned c

  abbrev pub place_by : Option (Known V) → Option Place
  place_by None = None
  place_by (Some c) = pointed c

  -- the desk when the owner of a member came; of a free cell, when it was opened
  abbrev pub desk_by : DeskNow V → Option (Known V) → DeskNow V
  desk_by o None = o
  desk_by o (Some c) = desk_at o c

  -- the site is that of a free cell of the domain, or of a member of what the owner is of
  abbrev pub IsSharedSite : DeskNow V → SharedSite → Option (Known V) → Type 0
  IsSharedSite o (shared.Free n) of = n < o.shape.shared_cells
  IsSharedSite o (shared.Of b m) None = ⊥
  IsSharedSite o (shared.Of b m) (Some c) = OwnsBlock c.handle b
  IsSharedSite o (shared.More b n) None = ⊥
  IsSharedSite o (shared.More b n) (Some c) = OwnsBlock c.handle b × (n + 2 < o.shape.owners)

  abbrev pub IsWeakSite : DeskNow V → WeakSite → Option (Known V) → Type 0
  IsWeakSite o (weak.Free n) of = n < o.shape.weak_cells
  IsWeakSite o (weak.Up b) None = ⊥
  IsWeakSite o (weak.Up b) (Some c) = OwnsBlock c.handle b
  IsWeakSite o (weak.More b n) None = ⊥
  IsWeakSite o (weak.More b n) (Some c) = OwnsBlock c.handle b × (n + 1 < o.shape.weaks)

  -- the cell there
  abbrev pub shared_cell_of : DeskNow V → Option (Known V) → SharedSite → Cell
  shared_cell_of o of s = shared_cell (desk_by o of) s

  abbrev pub weak_cell_of : DeskNow V → Option (Known V) → WeakSite → Cell
  weak_cell_of o of s = weak_cell (desk_by o of) s

  -- objects of the domain have a member of that number
  abbrev pub HasMember : DeskNow V → Kind → ℕ → Type 0
  HasMember o Owner zero = Unit {0}
  HasMember o Owner (suc zero) = Unit {0}
  HasMember o Owner (suc (suc n)) = n + 2 < o.shape.owners
  HasMember o Weak zero = Unit {0}
  HasMember o Weak (suc n) = n + 1 < o.shape.weaks

  -- it came just then
  abbrev pub CameTo : Option (Known V) → DeskNow V → Type 0
  CameTo None e = Unit {0}
  CameTo (Some r) e = r.seen ≡ e.seen

  -- since the owner came, the desk had a copy of what cell x holds, by one step on it
  pub record LoadedAt (o : DeskNow V) (of : Option (Known V)) (x : Cell) (k : Kind) (got : Option (Known V)) : Type 0
    where
      pub before : DeskNow V
      pub after : DeskNow V
      pub member : Stays o of before
      pub loads : Loads before x k (block_by got) (place_by got) after
      pub came : CameTo got after

  -- since the owner and the pointer came, the desk looked whether cell x holds a pointer equivalent to this one
  abbrev pub LookedForAt : DeskNow V → Option (Known V) → Cell → Kind → Known V → Bool → Type 0
  LookedForAt o of x k mine same =
      Since o mine (λ d e. Stays o of d × TellsHeld d x k (owned mine) (pointed mine) same e)

  -- since the owner came, the desk looked whether cell x holds an empty pointer
  abbrev pub LookedEmptyAt : DeskNow V → Option (Known V) → Cell → Kind → Bool → Type 0
  LookedEmptyAt o of x k same =
      (d : DeskNow V) × (e : DeskNow V) × Stays o of d × TellsHeld d x k None None same e

  -- since the owner and the pointer came, the pointer went into the cell and what that held came out, by one step on it
  pub record ExchangedAt (o : DeskNow V) (of : Option (Known V)) (x : Cell) (k : Kind) (new got : Option (Known V))
      : Type 0 where
    pub before : DeskNow V
    pub after : DeskNow V
    pub member : Stays o of before
    pub pointer : Stays o new before
    pub exchanges : Exchanges before x k (block_by new) (place_by new) (block_by got) (place_by got) after
    pub came : CameTo got after

  -- the same, and then what came out left
  pub record StoredAt (o : DeskNow V) (of : Option (Known V)) (x : Cell) (new : Option (Known V)) : Type 0 where
    pub before : DeskNow V
    pub after : DeskNow V
    pub left : Left V
    pub member : Stays o of before
    pub pointer : Stays o new before
    pub stores : Stores before x (block_by new) (place_by new) left after

  -- the same, and so it is told what left
  abbrev pub StoredTold : DeskNow V → Option (Known V) → Cell → Option (Known V) → Gone → Type 0
  StoredTold o of x new gone = (stored : StoredAt o of x new) × (gone ≡ gone_of stored.left)

  pub record StoredWeaklyAt (o : DeskNow V) (of : Option (Known V)) (x : Cell) (new : Option (Known V)) : Type 0 where
    pub before : DeskNow V
    pub after : DeskNow V
    pub left : Left V
    pub member : Stays o of before
    pub pointer : Stays o new before
    pub stores : StoresWeakly before x (block_by new) (place_by new) left after

  -- the pointer went into the cell, and what that held left, by its kind
  abbrev pub StoredInto : DeskNow V → Option (Known V) → Cell → Kind → Option (Known V) → Type 0
  StoredInto o of x Owner new = StoredAt o of x new
  StoredInto o of x Weak new = StoredWeaklyAt o of x new

  -- since the owner came, the place held this pointer: by a load, or by a look where it was known before
  abbrev pub FoundAt : DeskNow V → Option (Known V) → Cell → Kind → Option (Known V) → Type 0
  FoundAt o of x k got = LoadedAt o of x k got ⊎ ((c : Known V) × (got ≡ Some c) × LookedForAt o of x k c true)

  -- an owner of what a weak pointer is of, just where one remained
  abbrev pub IsOwnerOf : DeskNow V → Option (Known V) → Option (Known V) → Type 0
  IsOwnerOf o None None = Unit {0}
  IsOwnerOf o None (Some r) = ⊥
  IsOwnerOf o (Some w) None = Since o w (λ d e. FindsNoOwner d (owned w) (pointed w) e)
  IsOwnerOf o (Some w) (Some r) = AreOfOne o w r
