-- What the calls on cells say: on free ones, and on members of objects that owners in slots own
-- ([util.smartptr.atomic.shared], [util.smartptr.atomic.weak]; members: own).
use Rattle.std.specs.Prelude.{◌≡◌, ℕ, ◌+◌, ◌<◌, Bool, List, slice_get, slice_set, Option, None, Some}
use Rattle.control_word.specs.declared.model.handle.Kind.{Kind}
use Rattle.control_word.specs.declared.place.Block.{Block}
use Rattle.control_word.specs.declared.place.Place.{Place}
use Rattle.control_word.specs.declared.refusal.Refusal.{Refusal}
use Rattle.control_word.specs.declared.refusal.Refusal.TheVariants.{Null, Outside}
use Rattle.control_word.specs.declared.shape.Shape.{Shape}
use Rattle.control_block.specs.CellCalls.{cell_of_site}
use Rattle.control_block.specs.Desks.{DeskNow}
use Rattle.control_word.specs.declared.site.Site.{Site}
use Rattle.control_word.specs.declared.site.Site.TheVariants as site
use Rattle.control_block.specs.declared.handles.Held.{Held}
use Rattle.control_block.specs.declared.handles.Held.TheVariants.{Owner}
use Rattle.control_block.specs.declared.handles.Shared.{Shared}
use Rattle.shared_handle.specs.Endings.{IsOutside}
use Rattle.atomic_cells.specs.Cells as cells
use Rattle.script_runner.specs.SlotCalls.{Assigns, Comes, IsOwnerAt}
use Rattle.script_runner.specs.Parts.{kind_of_held, block_of_held, place_of_held}
use Rattle.script_runner.specs.Tables.{IsAt, Slot, TableNow}
use Rattle.step_threads.specs.Programs.{kind_at}
use Rattle.step_threads.specs.declared.programs.call.CellName.{CellName}
use Rattle.step_threads.specs.declared.programs.call.CellName.TheVariants as cell

-- the owner owns the object in the block, and points into it
pub record PointsInto (h : Shared) (b : Block) : Type 0 where
  pub owns : h.block ≡ Some b
  pub place : Place
  pub points : (h.place ≡ Some place) × (place.block ≡ b)

-- why it doesn't point into what it owns
abbrev pub IsAway : Option Block → Option Place → Refusal → Type 0
IsAway b p Null = p ≡ None
IsAway b p Outside = IsOutside b p
IsAway b p why = ⊥

-- the slot has an owner that owns the object in the block, and points into it
pub record OwnsInto (ss : List Slot) (i : ℕ) (b : Block) : Type 0 where
  pub owner : Shared
  pub at : slice_get ss i ≡ Some (Some (Owner owner))
  pub into : PointsInto owner b

-- a cell that the domain has, or a member of what an owner in a slot owns, which may be null or point elsewhere
abbrev pub IsInReach : Shape → List Slot → CellName → Type 0
IsInReach z ss (cell.Shared n) = n < z.shared_cells
IsInReach z ss (cell.Weak n) = n < z.weak_cells
IsInReach z ss (cell.Member k m) = IsOwnerAt ss k.0 × (m < 3)

-- where the cell is: the free weak ones stand behind the free shared ones
abbrev pub IsCellAtSite : Shape → List Slot → CellName → Site → Type 0
IsCellAtSite z ss (cell.Shared n) s = (n < z.shared_cells) × (s ≡ site.Free n)
IsCellAtSite z ss (cell.Weak n) s = (n < z.weak_cells) × (s ≡ site.Free (z.shared_cells + n))
IsCellAtSite z ss (cell.Member k m) s = (b : Block) × OwnsInto ss k.0 b × (s ≡ site.Member b m)

-- the owner of its object doesn't point into that
abbrev pub WhyNoCell : List Slot → CellName → Refusal → Type 0
WhyNoCell ss (cell.Member k m) why = (h : Shared) × (slice_get ss k.0 ≡ Some (Some (Owner h)))
    × IsAway h.block h.place why
WhyNoCell ss _ why = ⊥

-- the slot has a handle of this kind
abbrev pub IsKindAt : Kind → List Slot → ℕ → Type 0
IsKindAt k ss i = (h : Held) × (slice_get ss i ≡ Some (Some h)) × (kind_of_held h ≡ k)

module _ {V : Type 0} where
  -- a copy of what the cell holds was assigned to a slot
  pub record LoadsIntoSlot (t : TableNow V) (c : CellName) (to : ℕ) (u : TableNow V) : Type 0 where
    pub site : Site
    pub is : IsCellAtSite t.desk.shape t.slots c site
    pub loads : Comes (λ d h e. (kind_of_held h ≡ kind_at c)
        × cells.Loads d (cell_of_site d site) (kind_at c) (block_of_held h) (place_of_held h) e) t to u

  -- whether the cell holds what is equivalent to the handle in a slot; nothing else changes
  pub record TellsSlotHeld (t : TableNow V) (c : CellName) (i : ℕ) (same : Bool) (u : TableNow V) : Type 0 where
    pub site : Site
    pub is : IsCellAtSite t.desk.shape t.slots c site
    pub of : Held
    pub at : IsAt t i of
    pub kind : kind_of_held of ≡ kind_at c
    pub tells : cells.TellsHeld t.desk (cell_of_site t.desk site) (kind_at c) (block_of_held of)
        (place_of_held of) same u.desk
    pub rest : (u.slots ≡ t.slots) × (u.endings ≡ t.endings)

  -- the handle in a slot went into the cell, and what that held came out
  pub record SwapsFromSlot (t : TableNow V) (from : ℕ) (c : CellName) (old : Held) (e : DeskNow V) : Type 0 where
    pub site : Site
    pub is : IsCellAtSite t.desk.shape t.slots c site
    pub of : Held
    pub at : IsAt t from of
    pub kinds : (kind_of_held of ≡ kind_at c) × (kind_of_held old ≡ kind_at c)
    pub exchanges : cells.Exchanges t.desk (cell_of_site t.desk site) (kind_at c) (block_of_held of)
        (place_of_held of)
        (block_of_held old) (place_of_held old) e

  -- and came into the slot
  pub record ExchangesSlot (t : TableNow V) (i : ℕ) (c : CellName) (u : TableNow V) : Type 0 where
    pub old : Held
    pub between : DeskNow V
    pub swaps : SwapsFromSlot t i c old between
    pub assigns : Assigns between (slice_set t.slots i None) t.endings i old u.desk u.slots u.endings

  -- there is such a cell
  abbrev pub NamesCell : TableNow V → CellName → Type 0
  NamesCell t c = (at : Site) × IsCellAtSite t.desk.shape t.slots c at
