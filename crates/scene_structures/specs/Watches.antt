-- A weak handle that goes into an object's `up` (own).
use Rattle.std.specs.Prelude.{ℕ, All, List, ◌∷◌, ◌++◌}
use Rattle.control_word.specs.declared.model.event.Cell.TheVariants.{Member}
use Rattle.control_word.specs.declared.model.event.Event.{Event}
use Rattle.control_word.specs.declared.model.event.Event.TheVariants.{Swap}
use Rattle.control_word.specs.declared.model.handle.NumberedHandle.{NumberedHandle}
use Rattle.control_word.specs.declared.model.handle.Kind.TheVariants.{Weak}
use Rattle.control_block.specs.CellCalls.{handle_in}
use Rattle.control_block.specs.Desks.{DeskNow}
use Rattle.control_block.specs.Own.{Goes}
use Rattle.control_block.specs.declared.handles.Shared.{Shared}
use Rattle.shared_handle.specs.Calls.{weak_place}
use Rattle.shared_handle.specs.Piles.{IsParting}
use Rattle.scene_structures.specs.Puts.{PutsOnly, in_no_cell}

module _ {V : Type 0} where
  -- a weak handle of what this owns, which points where it does
  abbrev pub weak_of_owner : DeskNow V → Shared → NumberedHandle
  weak_of_owner d h = handle_in d Weak h.block (weak_place h.block h.place)

  -- this went into the object's `up`; before it nothing was put anywhere, and after it handles left
  pub record Watches (d : DeskNow V) (o : ℕ) (up : NumberedHandle) (e : DeskNow V) : Type 0 where
    pub was : NumberedHandle
    pub before : List (Event V)
    pub after : List (Event V)
    pub goes : Goes d (after ++ Swap (Member o 2) up was ∷ before) e
    pub early : All (PutsOnly in_no_cell) before
    pub late : All IsParting after
