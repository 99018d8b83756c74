-- What taking a node out of a tree says: by the desk's own steps, and for a sole desk by the parent's children (own).
use Rattle.std.specs.Prelude.{◌≡◌, ◌≢◌, ℕ, ◌+◌, Bool, true, false, List, []}
use Rattle.std.specs.Prelude.{◌∷◌, MatchOption, Option, None, Some}
use Rattle.control_word.specs.Handles.{empty, object_of}
use Rattle.control_word.specs.State.{live}
use Rattle.control_word.specs.declared.model.event.Cell.{Cell}
use Rattle.control_word.specs.declared.model.event.Cell.TheVariants.{Member}
use Rattle.control_word.specs.declared.model.event.Event.TheVariants.{Compare, Load}
use Rattle.control_word.specs.declared.model.handle.NumberedHandle.{NumberedHandle}
use Rattle.control_word.specs.declared.model.handle.Kind.TheVariants.{Owner, Weak}
use Rattle.control_block.specs.Desks.{AddsEvent, DeskNow, state_of}
use Rattle.control_block.specs.Own.{Does}
use Rattle.control_block.specs.declared.handles.Shared.{Shared}
use Rattle.shared_handle.specs.Endings.{IsWithin}
use Rattle.shared_handle.specs.Piles.{IsParting}
use Rattle.scene_structures.specs.Hands.{HasHands, SameNode, node_in}
use Rattle.scene_structures.specs.Parents.{LocksUp}
use Rattle.scene_structures.specs.Puts.{PutsOnly, in_no_cell}
use Rattle.scene_structures.specs.Stacks.{Fills, FindsNone}
use Rattle.scene_structures.specs.Watches.{Watches}
use Rattle.scene_structures.specs.declared.lists.removals.Sought.{Sought}
use Rattle.scene_structures.specs.declared.lists.removals.Sought.TheVariants.{Cut, End, Other}

module _ {V : Type 0} where
  -- what was found in a cell: no node, or this
  abbrev pub IsFound : DeskNow V → Cell → Option Shared → DeskNow V → Type 0
  IsFound d c None e = FindsNone d c e
  IsFound d c (Some h) e = AddsEvent d (Load c (node_in e h)) e × IsWithin h.block h.place

  -- the object's `next` was loaded, and went by a compare into the cell, which held an owner of it; then handles left
  pub record Skips (d : DeskNow V) (c : Cell) (node : NumberedHandle) (e : DeskNow V) : Type 0 where
    pub below : NumberedHandle
    pub old : NumberedHandle
    pub read : DeskNow V
    pub reads : AddsEvent d (Load (Member (object_of node) 1) below) read
    pub cut : DeskNow V
    pub swaps : AddsEvent read (Compare c node below old true true) cut
    pub leaves : Does IsParting cut e

  -- or nothing was put anywhere
  abbrev pub MaySkip : DeskNow V → Cell → NumberedHandle → Bool → DeskNow V → Type 0
  MaySkip d c node true e = Skips d c node e
  MaySkip d c node false e = Does (PutsOnly in_no_cell) d e

  -- after tries that put nothing anywhere the cell was loaded, and this was there, which isn't the object
  pub record Meets (d : DeskNow V) (c : Cell) (o : ℕ) (h : Shared) (e : DeskNow V) : Type 0 where
    pub tried : DeskNow V
    pub tries : Does (PutsOnly in_no_cell) d tried
    pub loads : AddsEvent tried (Load c (node_in e h)) e
    pub within : IsWithin h.block h.place
    pub other : object_of (node_in e h) ≢ o

  -- after such tries the cell was loaded, and the object was there, and went out
  pub record CutsOut (d : DeskNow V) (c : Cell) (o : ℕ) (e : DeskNow V) : Type 0 where
    pub tried : DeskNow V
    pub tries : Does (PutsOnly in_no_cell) d tried
    pub node : NumberedHandle
    pub is : node.object ≡ Some o
    pub seen : DeskNow V
    pub loads : AddsEvent tried (Load c node) seen
    pub skips : Skips seen c node e

  -- what came of a look for the object in a cell
  abbrev pub IsSought : DeskNow V → Cell → ℕ → Sought → DeskNow V → Type 0
  IsSought d c o End e = FindsNone d c e
  IsSought d c o Cut e = CutsOut d c o e
  IsSought d c o (Other h) e = Meets d c o h e

  abbrev pub HandsSought : List NumberedHandle → Sought → DeskNow V → Type 0
  HandsSought base (Other h) e = HasHands base (h ∷ []) e
  HandsSought base s e = HasHands base [] e

  abbrev pub HeldSought : DeskNow V → Sought → DeskNow V → Type 0
  HeldSought d (Other h) e = e.held ≡ d.held + 1
  HeldSought d s e = e.held ≡ d.held

  -- from a cell on, through the `next` of these objects, the last one first, the desk came to this, which isn't the
  -- object, nor is any of them
  abbrev pub ReachesNode : DeskNow V → Cell → ℕ → List ℕ → Shared → DeskNow V → Type 0
  ReachesNode d c o [] h e = Meets d c o h e
  ReachesNode d c o (b ∷ bs) h e =
      (node : Shared) × (m : DeskNow V) × (t : DeskNow V) × ReachesNode d c o bs node m
      × (object_of (node_in m node) ≡ b) × Meets m (Member b 1) o h t × Does IsParting t e × SameNode t h e

  -- the object went out of the cell, or the last look found no node
  abbrev pub IsEnd : DeskNow V → Cell → ℕ → Bool → DeskNow V → Type 0
  IsEnd d c o true e = CutsOut d c o e
  IsEnd d c o false e = FindsNone d c e

  -- it went out of the list that begins in the cell, or isn't there; these were passed, the last one first
  abbrev pub Seeks : DeskNow V → Cell → ℕ → List ℕ → Bool → DeskNow V → Type 0
  Seeks d c o [] found e = IsEnd d c o found e
  Seeks d c o (b ∷ bs) found e =
      (node : Shared) × (m : DeskNow V) × (t : DeskNow V) × ReachesNode d c o bs node m
      × (object_of (node_in m node) ≡ b) × IsEnd m (Member b 1) o found t × Does IsParting t e

  -- the object's `up` and its `next` were emptied
  pub record Unlinks (d : DeskNow V) (o : ℕ) (e : DeskNow V) : Type 0 where
    pub began : DeskNow V
    pub begins : Does (PutsOnly in_no_cell) d began
    pub orphan : DeskNow V
    pub watches : Watches began o (empty Weak) orphan
    pub fills : Fills orphan o (empty Owner) e

  -- where it went out it was unlinked, and else nothing was put anywhere
  abbrev pub UnlinksIf : Bool → DeskNow V → ℕ → DeskNow V → Type 0
  UnlinksIf true d o e = Unlinks d o e
  UnlinksIf false d o e = e ≡ d

  -- the object was sought among the children of p, and both live; then handles left
  pub record LeavesParent (d : DeskNow V) (p o : ℕ) (e : DeskNow V) : Type 0 where
    pub at : DeskNow V
    pub comes : Does (PutsOnly in_no_cell) d at
    pub passed : List ℕ
    pub found : Bool
    pub sought : DeskNow V
    pub seeks : Seeks at (Member p 0) o passed found sought
    pub unlinked : DeskNow V
    pub unlinks : UnlinksIf found sought o unlinked
    pub live_parent : ((state_of unlinked).object p).phase ≡ live
    pub live_node : ((state_of unlinked).object o).phase ≡ live
    pub leaves : Does IsParting unlinked e

  -- what the object's `up` is on was looked for, and where that has an owner, the object leaves it
  pub record Detaches (d : DeskNow V) (o : ℕ) (e : DeskNow V) : Type 0 where
    pub parent : Shared
    pub climbed : DeskNow V
    pub climbs : LocksUp d o parent climbed
    pub rest : MatchOption parent.block (Does IsParting climbed e)
        (λ b. LeavesParent climbed (object_of (node_in climbed parent)) o e)
