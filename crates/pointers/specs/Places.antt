-- Which cell a site is, and why a call on it was not done (own).
use Rattle.std.specs.Prelude.{◌≡◌, ◌⊎◌, ℕ, suc, zero, ◌≤◌, None}
use Rattle.control_word.specs.declared.model.event.Cell.{Cell}
use Rattle.control_word.specs.declared.model.handle.Kind.{Kind}
use Rattle.control_word.specs.declared.model.handle.Kind.TheVariants.{Owner, Weak}
use Rattle.control_word.specs.declared.refusal.Refusal.TheVariants as refusal
use Rattle.control_block.specs.Desks.{DeskNow}
use Rattle.shared_handle.specs.Endings.{IsOutside}
use Rattle.atomic_cells.specs.declared.sites.SharedSite.{SharedSite}
use Rattle.atomic_cells.specs.declared.sites.SharedSite.TheVariants as shared
use Rattle.atomic_cells.specs.declared.sites.WeakSite.{WeakSite}
use Rattle.atomic_cells.specs.declared.sites.WeakSite.TheVariants as weak
use Rattle.pointers.specs.Cells.{block_or, owner_site, shared_cell_of, weak_cell_of, weak_site}
use Rattle.pointers.specs.Faults.{WhyNoMore}
use Rattle.pointers.specs.Known.{owned, pointed}
use Rattle.pointers.specs.Sites.{Site, owner_of}
use Rattle.pointers.specs.declared.cells.location.Location.TheVariants.{Free, Member}
use Rattle.pointers.specs.declared.fault.Fault.{Fault}
use Rattle.pointers.specs.declared.fault.Fault.TheVariants as fault
use Rattle.pointers.specs.declared.fault.call.Call.{Call}
use Rattle.pointers.specs.declared.fault.call.Spot.{Spot}
use Rattle.pointers.specs.declared.fault.call.Spot.TheVariants as spot
use Rattle.pointers.specs.declared.known.Known.{Known}

module _ {V : Type 0} where
  -- where the handles below have it
  abbrev pub shared_site_of : Site V → SharedSite
  shared_site_of (Free n) = shared.Free n
  shared_site_of (Member c n) = owner_site (block_or (owned c)) n

  abbrev pub weak_site_of : Site V → WeakSite
  weak_site_of (Free n) = weak.Free n
  weak_site_of (Member c n) = weak_site (block_or (owned c)) n

  -- the cell there
  abbrev pub cell_at : DeskNow V → Kind → Site V → Cell
  cell_at o Owner s = shared_cell_of o (owner_of s) (shared_site_of s)
  cell_at o Weak s = weak_cell_of o (owner_of s) (weak_site_of s)

  -- what messages call it
  abbrev pub spot_of : Kind → Site V → Spot
  spot_of Owner (Free n) = spot.Shared n
  spot_of Owner (Member c n) = spot.Owner n
  spot_of Weak (Free n) = spot.Weak n
  spot_of Weak (Member c n) = spot.WeakMember n

  -- so many free ones of the kind there are
  abbrev pub cells_of : DeskNow V → Kind → ℕ
  cells_of o Owner = o.shape.shared_cells
  cells_of o Weak = o.shape.weak_cells

  -- objects of the domain have no member of that number
  abbrev pub IsBeyond : DeskNow V → Kind → ℕ → Type 0
  IsBeyond o Owner zero = ⊥
  IsBeyond o Owner (suc zero) = ⊥
  IsBeyond o Owner (suc (suc n)) = o.shape.owners ≤ suc (suc n)
  IsBeyond o Weak zero = ⊥
  IsBeyond o Weak (suc n) = o.shape.weaks ≤ suc n

  -- why an owner has no member: it points into no object that it owns
  abbrev pub WhyNoMember : Known V → Call → Fault → Type 0
  WhyNoMember c call why =
      ((pointed c ≡ None) × (why ≡ fault.Refused call refusal.Null))
      ⊎ (IsOutside (owned c) (pointed c) × (why ≡ fault.Refused call refusal.Outside))

  -- why a call has no cell: there is no free one of that number, or no member
  abbrev pub WhyNoCell : DeskNow V → Kind → Site V → Call → Fault → Type 0
  WhyNoCell o k (Free n) call why = (cells_of o k ≤ n) × (why ≡ fault.Cell call)
  WhyNoCell o k (Member c n) call why =
      WhyNoMember c call why ⊎ (IsBeyond o k n × (why ≡ fault.Member call))

  -- why a call wasn't done: there is no cell, or else it came within a visit, or the desk had as many handles as it may
  -- have
  abbrev pub WhyNotDoneAt : DeskNow V → Kind → Site V → Call → Fault → Type 0
  WhyNotDoneAt o k s call why = WhyNoCell o k s call why ⊎ WhyNoMore o (owner_of s) call why

  -- why a look wasn't done: there is no cell, or else it came within a visit
  abbrev pub WhyNotLookedAt : DeskNow V → Kind → Site V → Call → Fault → Type 0
  WhyNotLookedAt o k s call why = WhyNoCell o k s call why ⊎ (why ≡ fault.Busy call)
