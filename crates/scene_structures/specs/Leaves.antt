-- What taking a node out leaves of a sole desk's tree (own).
use Rattle.std.specs.Prelude.{◌≡◌, ℕ, ◌<◌, ◌⊎◌, true, false, List, [], ◌∷◌, ◌++◌, Some}
use Rattle.control_word.specs.Events.{cell_of}
use Rattle.control_word.specs.Handles.{empty}
use Rattle.control_word.specs.State.{Has, State, live}
use Rattle.control_word.specs.declared.model.event.Cell.{Cell}
use Rattle.control_word.specs.declared.model.event.Cell.TheVariants.{Free, Member}
use Rattle.control_word.specs.declared.model.handle.Kind.TheVariants.{Owner, Weak}
use Rattle.control_block.specs.Desks.{DeskNow, state_of}
use Rattle.control_block.specs.Own.{Does}
use Rattle.shared_handle.specs.Piles.{IsParting}
use Rattle.scene_structures.specs.Prunes.{is_owned}
use Rattle.scene_structures.specs.Puts.{in_no_cell}
use Rattle.scene_structures.specs.Scenes.{AreChildren}

-- the cell is a free one, or a member of an object that lives
abbrev pub IsLiveCell : State → Cell → Type 0
IsLiveCell s (Free n) = n < s.cells
IsLiveCell s (Member o m) = (m < s.members) × ((s.object o).phase ≡ live)

-- the cell that holds what comes after these, in a list from this cell on
abbrev pub after_all : Cell → List ℕ → Cell
after_all c [] = c
after_all c (o ∷ os) = after_all (Member o 1) os

-- the cell, and the object's `next` and `up`
abbrev pub IsCut : Cell → ℕ → Cell → Type 0
IsCut c o k = (k ≡ c) ⊎ ((k ≡ Member o 1) ⊎ (k ≡ Member o 2))

module _ {V : Type 0} where
  -- what is there before and after holds what it held, but for these cells
  abbrev pub KeepsBut : (Cell → Type 0) → DeskNow V → DeskNow V → Type 0
  KeepsBut at d e =
      (k : Cell) → (at k → ⊥) → IsLiveCell (state_of d) k → IsLiveCell (state_of e) k
      → cell_of (state_of e) k ≡ cell_of (state_of d) k

  -- the object was one of p's children, and the others are them still, in their order; its `next` and `up` are empty,
  -- and nothing else changed
  pub record LeavesList (d : DeskNow V) (p o : ℕ) (os : List ℕ) (e : DeskNow V) : Type 0 where
    pub before : List ℕ
    pub behind : List ℕ
    pub was : os ≡ before ++ o ∷ behind
    pub is : AreChildren (state_of e) p (before ++ behind)
    pub next : ((state_of e).object o).member 1 ≡ empty Owner
    pub up : ((state_of e).object o).member 2 ≡ empty Weak
    pub rest : KeepsBut (IsCut (after_all (Member p 0) before) o) d e

  -- or it was none of them, and nothing changed
  pub record IsNoChild (d : DeskNow V) (p o : ℕ) (os : List ℕ) (e : DeskNow V) : Type 0 where
    pub none : Has o os → ⊥
    pub is : AreChildren (state_of e) p os
    pub rest : KeepsBut in_no_cell d e

  -- the object left the list, or wasn't in it
  abbrev pub LeavesOrNot : DeskNow V → ℕ → ℕ → List ℕ → DeskNow V → Type 0
  LeavesOrNot d p o os e = LeavesList d p o os e ⊎ IsNoChild d p o os e

  -- so it was at some time, and after it only handles left; and so it is now, if p lives
  pub record WentOut (d : DeskNow V) (p o : ℕ) (os : List ℕ) (e : DeskNow V) : Type 0 where
    pub at : DeskNow V
    pub out : LeavesOrNot d p o os at
    pub parts : Does IsParting at e
    pub lives : ((state_of e).object p).phase ≡ live → LeavesOrNot d p o os e

  -- where the object's `up` is on nothing that has an owner, nothing changed; where it is on p, and p's children are a
  -- list, the object went out of it
  abbrev pub IsDetached : DeskNow V → ℕ → DeskNow V → Type 0
  IsDetached d o e =
      let up = ((state_of d).object o).member 2 in
      (is_owned (state_of d) up ≡ false → KeepsBut in_no_cell d e)
      × ((p : ℕ) (os : List ℕ) → up.object ≡ Some p → is_owned (state_of d) up ≡ true
      → AreChildren (state_of d) p os → WentOut d p o os e)
