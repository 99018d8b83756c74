-- What a prune says, by the desk's own steps (own).
use Rattle.std.specs.Prelude.{◌≡◌, ℕ, zero, suc, ◌+◌, ◌==◌, Bool, true, false, not, cond, List, []}
use Rattle.std.specs.Prelude.{◌∷◌}
use Rattle.std.specs.Prelude.{Option, MatchOption, None, Some, filter, length}
use Rattle.control_word.specs.Handles.{object_of}
use Rattle.control_word.specs.State.{State, count}
use Rattle.control_word.specs.declared.model.event.Cell.{Cell}
use Rattle.control_word.specs.declared.model.event.Cell.TheVariants.{Member}
use Rattle.control_word.specs.declared.model.event.Event.{Event}
use Rattle.control_word.specs.declared.model.event.Event.TheVariants.{Load, Swap}
use Rattle.control_word.specs.declared.model.handle.NumberedHandle.{NumberedHandle}
use Rattle.control_word.specs.declared.model.handle.Kind.TheVariants.{Weak}
use Rattle.control_word.specs.declared.place.Block.{Block}
use Rattle.control_word.specs.declared.place.Place.{Place}
use Rattle.control_block.specs.Desks.{AddsEvent, DeskNow, state_of}
use Rattle.control_block.specs.Own.{Does, Goes}
use Rattle.control_block.specs.declared.handles.Shared.{Shared}
use Rattle.shared_handle.specs.Calls.{IsExpiry, LeavesWeakly}
use Rattle.shared_handle.specs.Endings.{IsWithin}
use Rattle.shared_handle.specs.Piles.{IsParting}
use Rattle.atomic_cells.specs.Cells.{Loads}
use Rattle.scene_structures.specs.Chains.{IsList}
use Rattle.scene_structures.specs.Hands.{HasHands, SameNode, node_in}
use Rattle.scene_structures.specs.Stacks.{FindsNone}
use Rattle.scene_structures.specs.declared.lists.prunes.Front.{Front}
use Rattle.scene_structures.specs.declared.lists.prunes.Front.TheVariants.{End, Gone, Stays}

-- what the handle is on has an owner
abbrev pub is_owned : State → NumberedHandle → Bool
is_owned s h = elim h.object [ None ↦ false | Some o ↦ not (count s o == 0) ]

-- those of the objects that are marked
abbrev pub picked : List ℕ → List Bool → List ℕ
picked (o ∷ os) (b ∷ bs) = cond b (o ∷ picked os bs) (picked os bs)
picked os bs = []

module _ {V : Type 0} where
  -- the cell was loaded, what it held was asked whether its object has no owner, as an empty handle has none, and then
  -- left
  pub record AsksExpired (d : DeskNow V) (c : Cell) (gone : Bool) (e : DeskNow V) : Type 0 where
    pub block : Option Block
    pub place : Option Place
    pub loaded : DeskNow V
    pub loads : Loads d c Weak block place loaded
    pub asked : DeskNow V
    pub asks : IsExpiry loaded block place gone asked
    pub vacant : Bool
    pub leaves : LeavesWeakly asked block place vacant e

  -- the cell was loaded; this was there, and the `up` of its object asked
  pub record Finds (d : DeskNow V) (c : Cell) (h : Shared) (gone : Bool) (e : DeskNow V) : Type 0 where
    pub loaded : DeskNow V
    pub loads : AddsEvent d (Load c (node_in e h)) loaded
    pub asks : AsksExpired loaded (Member (object_of (node_in e h)) 2) gone e

  -- what was found in a cell
  abbrev pub IsFront : DeskNow V → Cell → Front → DeskNow V → Type 0
  IsFront d c End e = FindsNone d c e
  IsFront d c (Stays h) e = Finds d c h false e × IsWithin h.block h.place
  IsFront d c (Gone h) e = Finds d c h true e × IsWithin h.block h.place

  abbrev pub HandsFront : List NumberedHandle → Front → DeskNow V → Type 0
  HandsFront base End e = HasHands base [] e
  HandsFront base (Stays h) e = HasHands base (h ∷ []) e
  HandsFront base (Gone h) e = HasHands base (h ∷ []) e

  abbrev pub HeldFront : DeskNow V → Front → DeskNow V → Type 0
  HeldFront d End e = e.held ≡ d.held
  HeldFront d _ e = e.held ≡ d.held + 1

  -- the object's `next` was loaded, and went into the cell; and then handles left
  pub record PassesNode (d : DeskNow V) (c : Cell) (o : ℕ) (e : DeskNow V) : Type 0 where
    pub next : NumberedHandle
    pub seen : DeskNow V
    pub loads : AddsEvent d (Load (Member o 1) next) seen
    pub old : NumberedHandle
    pub cut : DeskNow V
    pub swaps : AddsEvent seen (Swap c next old) cut
    pub leaves : Does IsParting cut e

  -- the node in the cell, whose subject has no owner, goes out: the cell gets what comes next
  pub record Cuts (d : DeskNow V) (c : Cell) (e : DeskNow V) : Type 0 where
    pub node : Shared
    pub found : DeskNow V
    pub finds : Finds d c node true found
    pub within : IsWithin node.block node.place
    pub passes : PassesNode found c (object_of (node_in found node)) e

  -- so many nodes go out of the cell, one after another
  abbrev pub CutsAll : DeskNow V → Cell → ℕ → DeskNow V → Type 0
  CutsAll d c zero e = e ≡ d
  CutsAll d c (suc n) e = (m : DeskNow V) × CutsAll d c n m × Cuts m c e

  -- and then this node is there, whose subject has an owner, or none
  pub record ClearsFront (d : DeskNow V) (c : Cell) (n : ℕ) (kept : Option Shared) (e : DeskNow V) : Type 0 where
    pub cleared : DeskNow V
    pub cuts : CutsAll d c n cleared
    pub front : MatchOption kept (FindsNone cleared c e) (λ h. Finds cleared c h false e × IsWithin h.block h.place)

  -- what is kept in hand is on the object that it was on
  abbrev pub SameKept : DeskNow V → Option Shared → DeskNow V → Type 0
  SameKept d None e = Unit {0}
  SameKept d (Some h) e = SameNode d h e

  -- from a cell on so many nodes went out, and these objects stayed, the last one first, each a node whose `next` was
  -- cleared in its turn; the last look found this
  abbrev pub Prunes : DeskNow V → Cell → List ℕ → ℕ → Option Shared → DeskNow V → Type 0
  Prunes d c [] n kept e = ClearsFront d c n kept e
  Prunes d c (o ∷ os) n kept e =
      (a : ℕ) × (b : ℕ) × (node : Shared) × (m : DeskNow V) × (t : DeskNow V)
      × Prunes d c os a (Some node) m × (object_of (node_in m node) ≡ o)
      × ClearsFront m (Member o 1) b kept t × Does IsParting t e × SameKept t kept e × (n ≡ a + b)

  -- the desk's history goes on
  abbrev pub GoesOn : DeskNow V → DeskNow V → Type 0
  GoesOn d e = (own : List (Event V)) × Goes d own e

  -- the desk comes to these objects one after another, and this is whether the subject of each has an owner then
  abbrev pub AreOwned : DeskNow V → List ℕ → List Bool → DeskNow V → Type 0
  AreOwned d [] [] e = GoesOn d e
  AreOwned d (o ∷ os) (b ∷ bs) e =
      (m : DeskNow V) × GoesOn d m × (is_owned (state_of m) (((state_of m).object o).member 2) ≡ b)
      × AreOwned m os bs e
  AreOwned d os bs e = ⊥

  -- of the list in the cell just those stay whose subject has an owner when the desk comes to them; so many go
  abbrev pub IsPruned : DeskNow V → Cell → ℕ → DeskNow V → Type 0
  IsPruned d c n e =
      (os : List ℕ) → IsList (state_of d) c os
      → (owned : List Bool) × AreOwned d os owned e × IsList (state_of e) c (picked os owned)
      × (n ≡ length (filter not owned))
