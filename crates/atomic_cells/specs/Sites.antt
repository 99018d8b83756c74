-- Which cell a call is on ([util.smartptr.atomic.shared], [util.smartptr.atomic.weak]; members of objects: own).
use Rattle.std.specs.Prelude.{◌≡◌, ℕ, ◌+◌, ◌<◌, Option, None, Some, Result, Ok, Err}
use Rattle.control_word.specs.declared.model.event.Cell.{Cell}
use Rattle.control_word.specs.declared.place.Block.{Block}
use Rattle.control_word.specs.declared.place.Place.{Place}
use Rattle.control_word.specs.declared.refusal.Refusal.{Refusal}
use Rattle.control_word.specs.declared.refusal.Refusal.TheVariants.{Null, Outside}
use Rattle.control_word.specs.declared.shape.Shape.{Shape}
use Rattle.control_block.specs.CellCalls.{cell_of_site}
use Rattle.control_block.specs.Desks.{DeskNow}
use Rattle.control_word.specs.declared.site.Site.{Site}
use Rattle.control_word.specs.declared.site.Site.TheVariants as inner
use Rattle.shared_handle.specs.Endings.{IsOutside}
use Rattle.shared_handle.specs.Locks.{HasOwner}
use Rattle.atomic_cells.specs.declared.at.At.{At}
use Rattle.atomic_cells.specs.declared.sites.SharedMember.{SharedMember}
use Rattle.atomic_cells.specs.declared.sites.SharedMember.TheVariants.{First, Next}
use Rattle.atomic_cells.specs.declared.sites.SharedSite.{SharedSite}
use Rattle.atomic_cells.specs.declared.sites.SharedSite.TheVariants as shared
use Rattle.atomic_cells.specs.declared.sites.WeakSite.{WeakSite}
use Rattle.atomic_cells.specs.declared.sites.WeakSite.TheVariants as weak

-- the types of cells, since antt has no name for an alias
abbrev pub SharedAt : Type 0
SharedAt = At SharedSite

abbrev pub WeakAt : Type 0
WeakAt = At WeakSite

-- the members by their numbers
abbrev pub number_of_member : SharedMember → ℕ
number_of_member First = 0
number_of_member Next = 1

abbrev pub shared_site : SharedSite → Site
shared_site (shared.Free n) = inner.Free n
shared_site (shared.Of b m) = inner.Member b (number_of_member m)
shared_site (shared.More b n) = inner.Member b (3 + n)

-- the free weak cells stand behind the shared ones, and further weak members behind all owners
abbrev pub weak_site : Shape → WeakSite → Site
weak_site z (weak.Free n) = inner.Free (z.shared_cells + n)
weak_site z (weak.Up b) = inner.Member b 2
weak_site z (weak.More b n) = inner.Member b (z.owners + 1 + n)

-- the number of a free one is below so many
abbrev pub IsFewWeak : ℕ → WeakSite → Type 0
IsFewWeak k (weak.Free n) = n < k
IsFewWeak k (weak.Up b) = Unit {0}
IsFewWeak k (weak.More b n) = Unit {0}

-- the member of the object that the handle owns and points into, or why there is none (own)
abbrev pub IsMember : {A : Type 0} → (Block → A → Type 0) → Option Block → Option Place
    → Result A Refusal → Type 0
IsMember is b p (Ok at) = (q : Place) × (p ≡ Some q) × (b ≡ Some q.block) × is q.block at
IsMember is b p (Err Null) = p ≡ None
IsMember is b p (Err Outside) = IsOutside b p
IsMember is b p (Err why) = ⊥

module _ {V : Type 0} where
  -- the cell is open to the desk: it is a free one of the shape, or a member, by the shape, of an object that the desk
  -- has an owner of
  abbrev pub IsOpenSite : DeskNow V → SharedSite → Type 0
  IsOpenSite d (shared.Free n) = n < d.shape.shared_cells
  IsOpenSite d (shared.Of b m) = HasOwner d (Some b)
  IsOpenSite d (shared.More b n) = HasOwner d (Some b) × (n + 2 < d.shape.owners)

  abbrev pub IsOpenWeakly : DeskNow V → WeakSite → Type 0
  IsOpenWeakly d (weak.Free n) = n < d.shape.weak_cells
  IsOpenWeakly d (weak.Up b) = HasOwner d (Some b)
  IsOpenWeakly d (weak.More b n) = HasOwner d (Some b) × (n + 1 < d.shape.weaks)

  -- the cell by the desk's history: a member is that of the object last made in the block
  abbrev pub shared_cell : DeskNow V → SharedSite → Cell
  shared_cell d s = cell_of_site d (shared_site s)

  abbrev pub weak_cell : DeskNow V → WeakSite → Cell
  weak_cell d s = cell_of_site d (weak_site d.shape s)
