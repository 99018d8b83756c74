-- A tree of objects that nobody else owns, and what its teardown answers (own).
use Rattle.std.specs.Prelude.{◌≡◌, ℕ, ◌<◌, ◌≤◌, List, [], ◌∷◌, ◌++◌, map, Some, None}
use Rattle.control_word.specs.Histories.{value}
use Rattle.control_word.specs.State.{State, count}
use Rattle.control_word.specs.declared.model.handle.NumberedHandle.{NumberedHandle}
use Rattle.control_block.specs.Desks.{DeskNow, state_of}
use Rattle.control_block.specs.Rule.{opening_of}
use Rattle.control_block.specs.declared.handles.Shared.{Shared}
use Rattle.scene_structures.specs.Hands.{node_in}

-- nothing, or an object with what lies below its `first` and below its `next`
pub data Tree : Type 0 where
  bare : Tree
  node : ℕ → Tree → Tree → Tree

-- its objects: each before what its `first` owns, and that before what its `next` owns
abbrev pub objects_in_order : Tree → List ℕ
objects_in_order bare = []
objects_in_order (node o first next) = o ∷ (objects_in_order first ++ objects_in_order next)

-- the object's further owner members own nothing
abbrev pub HoldsNoMore : State → ℕ → Type 0
HoldsNoMore s o = (m : ℕ) → 2 < m → m ≤ s.owners → ((s.object o).member m).object ≡ None

-- the handle is the only owner of the tree's top, and that of what its `first` and its `next` own, and so on down
abbrev pub IsTree : State → NumberedHandle → Tree → Type 0
IsTree s h bare = h.object ≡ None
IsTree s h (node o first next) =
    (h.object ≡ Some o) × (count s o ≡ 1)
    × IsTree s ((s.object o).member 0) first × IsTree s ((s.object o).member 1) next × HoldsNoMore s o

module _ {V : Type 0} where
  -- where nobody else owns an object of the root's tree, these are the values of all of them, in this order
  abbrev pub IsTornDown : DeskNow V → Shared → List V → Type 0
  IsTornDown d root values =
      (t : Tree) → IsTree (state_of d) (node_in d root) t
      → map Some values ≡ map (value (opening_of d.shape) d.seen) (objects_in_order t)
