-- What a compare-and-swap of a cell says ([util.smartptr.atomic.shared], [util.smartptr.atomic.weak]).
use Rattle.std.specs.Prelude.{◌≡◌, ℕ, Bool, true, false, List, slice_set, None}
use Rattle.control_block.specs.CellCalls.{cell_of_site}
use Rattle.control_block.specs.Desks.{DeskNow}
use Rattle.control_word.specs.declared.site.Site.{Site}
use Rattle.control_block.specs.declared.handles.Held.{Held}
use Rattle.shared_handle.specs.declared.endings.Ending.{Ending}
use Rattle.shared_handle.specs.declared.pile.Gone.{Gone}
use Rattle.atomic_cells.specs.Compares as cells
use Rattle.script_runner.specs.SlotCalls.{Assigns, IsBelow, LetsGo}
use Rattle.script_runner.specs.Cells.{IsCellAtSite}
use Rattle.script_runner.specs.Parts.{kind_of_held, block_of_held, place_of_held}
use Rattle.script_runner.specs.Tables.{IsAt, Slot, TableNow}
use Rattle.step_threads.specs.Programs.{kind_at}
use Rattle.step_threads.specs.declared.programs.call.CellName.{CellName}

module _ {V : Type 0} where
  -- where it swapped, what was desired is out of its slot, and what came out of the cell left; else the expected slot
  -- was assigned a copy of what the cell holds, and what is desired is where it was
  abbrev pub FollowsCompare : Bool → DeskNow V → List Slot → List (Ending V) → Held → ℕ
      → ℕ → DeskNow V
      → List Slot → List (Ending V) → Type 0
  FollowsCompare true d ss xs found expected desired e ts ys = (gone : Gone) × LetsGo d xs found gone e ys
      × (ts ≡ slice_set ss desired None)
  FollowsCompare false d ss xs found expected desired e ts ys = Assigns d ss xs expected found e ts ys

  -- a cell was compared with what the one slot has, to get what the other has, by a desk below its allowance; a weak
  -- compare may differ on an equivalent handle
  pub record ComparesSlots (weak : Bool) (t : TableNow V) (c : CellName) (expected desired : ℕ) (swapped : Bool)
      (u : TableNow V) : Type 0 where
    pub site : Site
    pub is : IsCellAtSite t.desk.shape t.slots c site
    pub room : IsBelow t.desk
    pub there : Held
    pub new : Held
    pub at : IsAt t expected there × IsAt t desired new
    pub found : Held
    pub kinds : (kind_of_held there ≡ kind_at c) × (kind_of_held new ≡ kind_at c)
        × (kind_of_held found ≡ kind_at c)
    pub between : DeskNow V
    pub compares : cells.Compares t.desk (cell_of_site t.desk site) (kind_at c) (block_of_held there)
        (place_of_held there)
        (block_of_held new) (place_of_held new) swapped
        (block_of_held found) (place_of_held found) weak between
    pub follows : FollowsCompare swapped between t.slots t.endings found expected desired u.desk u.slots u.endings
