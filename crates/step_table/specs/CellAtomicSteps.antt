-- What steps on cells and on funds do. All of it is own but the events, which name their sections.
use Rattle.std.specs.Prelude.{ℕ, ◌+◌, ◌-◌, ◌*◌, true, false, List, slice_index, slice_set, Option, Some}
use Rattle.std.specs.Prelude.{None}
use Rattle.control_word.specs.declared.packed.cell.CellWord.{CellWord}
use Rattle.control_word.specs.declared.model.event.Cell.{Cell as Named}
use Rattle.control_word.specs.declared.model.event.Cell.TheVariants as named
use Rattle.control_word.specs.declared.model.event.Event.{Event}
use Rattle.control_word.specs.declared.model.event.Event.TheVariants as event
use Rattle.control_word.specs.declared.model.handle.NumberedHandle.{NumberedHandle}
use Rattle.control_word.specs.declared.model.handle.Kind.{Kind}
use Rattle.control_word.specs.declared.place.Block.{Block}
use Rattle.control_word.specs.declared.place.Place.{Place}
use Rattle.control_word.specs.declared.model.view.Pending.{Pending}
use Rattle.control_word.specs.declared.model.view.Pending.TheVariants.{Idle, Paying}
use Rattle.control_word.specs.Events.{kind_of}
use Rattle.control_word.specs.Handles.{handle}
use Rattle.control_word.specs.Layout.{site_place, spot}
use Rattle.control_word.specs.Packing.{cell_bits}
use Rattle.control_word.specs.State.{State, kind_of_member}
use Rattle.control_word.specs.Words.{slot}
use Rattle.control_word.specs.declared.site.Site.{Site}
use Rattle.control_word.specs.declared.site.Site.TheVariants.{Free, Member}
use Rattle.step_table.specs.declared.cell_steps.cell_step.CellStep.{CellStep}
use Rattle.step_table.specs.declared.cell_steps.cell_step.CellStep.TheVariants.{Look, Bring, GiveBack, Take, Turn}
use Rattle.step_table.specs.declared.cell_steps.cell_step.CellStep.TheVariants.{Refill, Swap, Holds}
use Rattle.step_table.specs.declared.cell_steps.cell_step.CellStep.TheVariants.{CompareSwap, TakeOut}
use Rattle.step_table.specs.declared.cell_steps.cell_step.Compared.{Compared}
use Rattle.control_word.specs.Limits.{cell_funds, one_fund, one_taken}

-- the cell as histories name it: a member by its object
abbrev pub cell_in : State → Site → Named
cell_in s (Free n) = named.Free n
cell_in s (Member b m) = named.Member (s.latest b.0) m

-- the kind of the handles in it
abbrev pub kind_in_state : State → Site → Kind
kind_in_state s c = kind_of s (cell_in s c)

-- the object in a block, if there is a block
abbrev pub object_at : State → Option Block → Option ℕ
object_at s None = None
object_at s (Some b) = Some (s.latest b.0)

-- the handle of this kind that a word tells
abbrev pub handle_as : State → Kind → CellWord → NumberedHandle
handle_as s k x = handle k (object_at s x.owned) x.place

abbrev pub handle_told : State → Site → CellWord → NumberedHandle
handle_told s c x = handle_as s (kind_in_state s c) x

module _ {V : Type 0} where
  -- so many funds are out on the count of the object in a block, and so many loads of it are under way
  abbrev pub owing_funds : State → Kind → Option Block → Option Place → ℕ → ℕ → Pending V
  owing_funds s k None p funds loads = Idle
  owing_funds s k (Some b) p funds loads = Paying k (s.latest b.0) p (spot b.0 (slot k)) funds loads

  -- what a cell held was loaded, or compared and found to differ
  abbrev pub looked : State → Site → CellWord → Option Compared → Event V
  looked s c x None = event.Load (cell_in s c) (handle_told s c x)
  looked s c x (Some y) = event.Compare (cell_in s c) (handle_told s c y.expected) (handle_told s c y.new)
      (handle_told s c x) false y.weak

  -- the event of a step; funds and refills are none
  abbrev pub cell_event : State → CellStep → Option (Event V)
  cell_event s (Look c x y) = Some (looked s c x y)
  cell_event s (Holds c x b) = Some (event.Same (cell_in s c) (handle_told s c x) b)
  cell_event s (Bring k b p f) = None
  cell_event s (GiveBack k b f) = None
  cell_event s (Take c x y) = Some (looked s c x y)
  cell_event s (Turn k b) = None
  cell_event s (Refill c t) = None
  cell_event s (Swap c new x) = Some (event.Swap (cell_in s c) (handle_told s c new) (handle_told s c x))
  cell_event s (CompareSwap c x y) =
      Some (event.Compare (cell_in s c) (handle_told s c y.expected) (handle_told s c y.new)
      (handle_told s c x) true y.weak)
  cell_event s (TakeOut b m x) = Some (event.ClearMember (s.latest b.0) m (handle_as s (kind_of_member 2 m) x))

  -- what is half done after it: the funds that are out
  abbrev pub cell_pending : State → CellStep → Pending V
  cell_pending s (Look c x y) = Idle
  cell_pending s (Holds c x b) = Idle
  cell_pending s (Bring k b p f) = owing_funds s k (Some b) p f 0
  cell_pending s (GiveBack k b f) = Idle
  cell_pending s (Take c x y) = owing_funds s (kind_in_state s c) x.owned x.place 1 1
  cell_pending s (Turn k b) = Idle
  cell_pending s (Refill c t) = Idle
  cell_pending s (Swap c new x) = owing_funds s (kind_in_state s c) x.owned x.place (cell_funds - x.taken) 0
  cell_pending s (CompareSwap c x y) = owing_funds s (kind_in_state s c) x.owned x.place (cell_funds - x.taken) 0
  cell_pending s (TakeOut b m x) = owing_funds s (kind_of_member 2 m) x.owned x.place (cell_funds - x.taken) 0

-- the words after it, in a table of so many blocks
abbrev pub cell_words : ℕ → List ℕ → CellStep → List ℕ
cell_words blocks w (Look c x y) = w
cell_words blocks w (Holds c x b) = w
cell_words blocks w (Bring k b p f) =
    slice_set w (spot b.0 (slot k)) (slice_index w (spot b.0 (slot k)) + one_fund * f)
cell_words blocks w (GiveBack k b f) =
    slice_set w (spot b.0 (slot k)) (slice_index w (spot b.0 (slot k)) - one_fund * f)
cell_words blocks w (Take c x y) = slice_set w (site_place blocks c) (slice_index w (site_place blocks c) + one_taken)
cell_words blocks w (Turn k b) = slice_set w (spot b.0 (slot k)) (slice_index w (spot b.0 (slot k)) - 4294967295)
cell_words blocks w (Refill c t) =
    slice_set w (site_place blocks c) (slice_index w (site_place blocks c) - one_taken * t)
cell_words blocks w (Swap c new x) = slice_set w (site_place blocks c) (cell_bits new)
cell_words blocks w (CompareSwap c x y) = slice_set w (site_place blocks c) (cell_bits y.new)
cell_words blocks w (TakeOut b m x) = slice_set w (spot b.0 (7 + m)) 0
