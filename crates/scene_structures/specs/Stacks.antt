-- What the calls on a stack say, by the desk's own events (own).
use Rattle.std.specs.Prelude.{◌≡◌, ℕ, suc, ◌<◌, ◌≤◌, Bool, true, false, All, List, [], ◌∷◌}
use Rattle.std.specs.Prelude.{◌++◌, Some, vec_capacity}
use Rattle.control_word.specs.Events.{cell_of, place_at}
use Rattle.control_word.specs.Handles.{object_of, owner}
use Rattle.control_word.specs.declared.model.event.Cell.{Cell}
use Rattle.control_word.specs.declared.model.event.Cell.TheVariants.{Member}
use Rattle.control_word.specs.declared.model.event.Event.{Event}
use Rattle.control_word.specs.declared.model.event.Event.TheVariants.{Compare, Load, Make, Swap}
use Rattle.control_word.specs.declared.model.handle.NumberedHandle.{NumberedHandle}
use Rattle.control_word.specs.declared.place.Block.{Block}
use Rattle.control_word.specs.declared.place.Place.{Place}
use Rattle.control_block.specs.Desks.{AddsEvent, DeskNow, DomainNow, latest_of, state_of}
use Rattle.shared_handle.specs.declared.pile.Pile.{Pile}
use Rattle.control_block.specs.Own.{Goes}
use Rattle.control_block.specs.declared.handles.Shared.{Shared}
use Rattle.shared_handle.specs.Endings.{IsWithin}
use Rattle.scene_structures.specs.Chains.{IsList, OwnsObject}
use Rattle.scene_structures.specs.Hands.{node_in}
use Rattle.shared_handle.specs.Piles.{IsParting}
use Rattle.scene_structures.specs.Puts.{PutsOnly, in_no_cell}

-- the cell that a stack stands in, and for how many objects that end it has room
pub record StackNow : Type 0 where
  pub cell : ℕ
  pub room : ℕ

-- the stack stands in a cell of the domain, with room for an end of each block
pub record StandsIn (s : StackNow) (domain : DomainNow) : Type 0 where
  pub cell : s.cell < domain.shape.shared_cells
  pub room : domain.shape.blocks ≤ s.room

-- the object's `next`
abbrev pub NextOf : ℕ → Cell → Type 0
NextOf o c = c ≡ Member o 1

module _ {V : Type 0} where
  -- this went into the object's `next`, and what was there left
  pub record Fills (d : DeskNow V) (o : ℕ) (below : NumberedHandle) (e : DeskNow V) : Type 0 where
    pub was : NumberedHandle
    pub between : List (Event V)
    pub goes : Goes d (between ++ Swap (Member o 1) below was ∷ []) e
    pub leaves : All IsParting between

  -- the node went into the cell by a compare, for what had gone into its `next` before; nothing else was put anywhere,
  -- but into that `next`, and after it handles left
  pub record Rises (d : DeskNow V) (c : Cell) (node : NumberedHandle) (e : DeskNow V) : Type 0 where
    pub below : NumberedHandle
    pub was : NumberedHandle
    pub old : NumberedHandle
    pub weak : Bool
    pub before : List (Event V)
    pub between : List (Event V)
    pub after : List (Event V)
    pub goes : Goes d (after ++ Compare c below node old true weak
        ∷ (between ++ Swap (Member (object_of node) 1) below was ∷ before)) e
    pub early : All (PutsOnly (NextOf (object_of node))) before
    pub leaves : All IsParting between
    pub late : All IsParting after

  -- push: a new object with these fields and this value was made, and its owner, which points at it, rises
  pub record Pushes (d : DeskNow V) (c : Cell) (fields : List ℕ) (x : V) (e : DeskNow V) : Type 0 where
    pub block : Block
    pub made : DeskNow V
    pub makes : AddsEvent d (Make block false false fields x) made
    pub rises : Rises made c (owner (latest_of made block.0) (place_at block.0)) e

  -- pop: the node went out of the cell by a compare, for what was loaded from its `next`; nothing else was put anywhere
  pub record PopsNode (d : DeskNow V) (c : Cell) (o : ℕ) (q : Place) (e : DeskNow V) : Type 0 where
    pub below : NumberedHandle
    pub old : NumberedHandle
    pub weak : Bool
    pub before : List (Event V)
    pub after : List (Event V)
    pub goes : Goes d
        (after ++ Compare c (owner o (Some q)) below old true weak ∷ (Load (Member o 1) below ∷ before)) e
    pub early : All (PutsOnly in_no_cell) before
    pub late : All IsParting after

  -- the event saw this in the cell, and left it there
  abbrev pub Sees : Cell → NumberedHandle → Event V → Type 0
  Sees c h (Load k got) = (k ≡ c) × (got ≡ h)
  Sees c h (Compare k expected new got false weak) = (k ≡ c) × (got ≡ h)
  Sees c h _ = ⊥

  -- the last look at the cell found this there, of which the desk has a copy; nothing was put anywhere, and after the
  -- look handles left. Where the copy owns an object that it points into, its place is in that object's block
  pub record Looks (d : DeskNow V) (c : Cell) (found : Shared) (e : DeskNow V) : Type 0 where
    pub at : DeskNow V
    pub look : Event V
    pub before : List (Event V)
    pub after : List (Event V)
    pub sees : Sees c (node_in at found) look
    pub looks : Goes d (look ∷ before) at
    pub leaves : Goes at after e
    pub early : All (PutsOnly in_no_cell) before
    pub late : All IsParting after
    pub within : (o : ℕ) → OwnsObject (state_of at) (node_in at found) o → IsWithin found.block found.place

  -- and that is no node: it owns no object that it points into
  pub record FindsNone (d : DeskNow V) (c : Cell) (e : DeskNow V) : Type 0 where
    pub found : Shared
    pub looks : Looks d c found e
    pub none : (o : ℕ) → OwnsObject (state_of looks.at) (node_in looks.at found) o → ⊥

  -- the list in the cell has the object that was made next in front
  abbrev pub IsPushed : DeskNow V → Cell → DeskNow V → Type 0
  IsPushed d c e = (os : List ℕ) → IsList (state_of d) c os → IsList (state_of e) c (suc (state_of d).made ∷ os)

  -- the front of the list went out of it, and holds in `next` what it held
  abbrev pub IsPopped : DeskNow V → Cell → Shared → DeskNow V → Type 0
  IsPopped d c h e =
      (os : List ℕ) → IsList (state_of d) c os
      → (o : ℕ) × (rest : List ℕ) × (os ≡ o ∷ rest) × IsList (state_of e) c rest
      × OwnsObject (state_of e) (node_in e h) o
      × (((state_of e).object o).member 1 ≡ cell_of (state_of e) c)

  -- there was no list but the one of nothing, and there is that one still
  abbrev pub IsEmptyList : DeskNow V → Cell → DeskNow V → Type 0
  IsEmptyList d c e = (os : List ℕ) → IsList (state_of d) c os → (os ≡ []) × IsList (state_of e) c []

  -- a pile on which nothing lies, with room for an end of each block: any desk of the domain may use it
  pub record ServesDomain (domain : DomainNow) (p : Pile V) : Type 0 where
    pub none : p.endings.items ≡ []
    pub room : domain.shape.blocks ≤ vec_capacity p.endings
