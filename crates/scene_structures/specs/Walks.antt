-- What a walk over the nodes of a cell says: by the desk's own looks, and for a sole desk by the list of nodes (own).
use Rattle.std.specs.Prelude.{◌≡◌, ℕ, ◌==◌, ◌+◌, Bool, true, false, cond, filter, slice_index, All}
use Rattle.std.specs.Prelude.{List, [], ◌∷◌, ◌++◌, Option, None, Some}
use Rattle.control_word.specs.Events.{place_at}
use Rattle.control_word.specs.Handles.{has_object, object_of, owner}
use Rattle.control_word.specs.State.{State, count}
use Rattle.control_word.specs.declared.model.event.Cell.{Cell}
use Rattle.control_word.specs.declared.model.event.Cell.TheVariants.{Member}
use Rattle.control_word.specs.declared.model.event.Event.{Event}
use Rattle.control_word.specs.declared.model.event.Event.TheVariants.{ClearMember, Finish, Leave, Load, Lock, Read}
use Rattle.control_word.specs.declared.model.event.Event.TheVariants.{Share}
use Rattle.control_word.specs.declared.model.event.Event.TheVariants.{WeakLeave}
use Rattle.control_word.specs.declared.model.handle.NumberedHandle.{NumberedHandle}
use Rattle.control_word.specs.declared.place.Block.{Block}
use Rattle.control_block.specs.Desks.{AddsEvent, DeskNow, latest_of, state_of}
use Rattle.control_block.specs.Own.{Does, Goes}
use Rattle.control_block.specs.declared.handles.Shared.{Shared}
use Rattle.shared_handle.specs.Piles.{IsParting}
use Rattle.scene_structures.specs.Chains.{IsList, OwnsObject}
use Rattle.scene_structures.specs.Hands.{HasHands, node_in}
use Rattle.scene_structures.specs.declared.lists.walks.Visited.{Visited}
use Rattle.scene_structures.specs.declared.lists.walks.Visited.TheVariants.{End, Passed, Told}

-- what a visit to a node saw: what its `up` held, field 0 of the subject, if that has an owner, and what its `next`
-- held
pub record SeenNode : Type 0 where
  pub object : ℕ
  pub up : NumberedHandle
  pub told : Option ℕ
  pub next : NumberedHandle

abbrev pub told_onto : Option ℕ → List ℕ → List ℕ
told_onto None told = told
told_onto (Some x) told = x ∷ told

-- what the visits told, the newest first
abbrev pub told_of : List SeenNode → List ℕ
told_of [] = []
told_of (s ∷ stops) = told_onto s.told (told_of stops)

-- what a subject tells where it has an owner, above what was told before
abbrev pub told_at : State → Option ℕ → List ℕ → List ℕ
told_at s None told = told
told_at s (Some o) told = cond (count s o == 0) told (slice_index (s.object o).fields 0 ∷ told)

-- what the subjects of these nodes tell, the last one first
abbrev pub told_by : State → List ℕ → List ℕ → List ℕ
told_by s told [] = told
told_by s told (o ∷ os) = told_by s (told_at s ((s.object o).member 2).object told) os

module _ {V : Type 0} where
  -- the event looks at a cell, for an owner or at a field
  abbrev pub is_look : Event V → Bool
  is_look (Load c got) = true
  is_look (Lock h got) = true
  is_look (Read h field) = true
  is_look _ = false

  -- the event is such a look, an owner comes of another, or a handle leaves: nothing is put anywhere
  abbrev pub IsLooking : Event V → Type 0
  IsLooking (Load c got) = Unit {0}
  IsLooking (Lock h got) = Unit {0}
  IsLooking (Read h field) = Unit {0}
  IsLooking (Share h p) = Unit {0}
  IsLooking (Leave h last) = Unit {0}
  IsLooking (WeakLeave h vacant) = Unit {0}
  IsLooking (ClearMember o m h) = Unit {0}
  IsLooking (Finish o vacant value) = Unit {0}
  IsLooking _ = ⊥

  -- these are the desk's looks, newest first, and nothing is put anywhere
  pub record HasLooked (d : DeskNow V) (looks : List (Event V)) (e : DeskNow V) : Type 0 where
    pub own : List (Event V)
    pub goes : Goes d own e
    pub quiet : All IsLooking own
    pub are : filter is_look own ≡ looks

  -- field 0 of the owned object, if there is one
  abbrev pub TellsField : DeskNow V → Option Block → Option ℕ → DeskNow V → Type 0
  TellsField d None None e = HasLooked d [] e
  TellsField d (Some b) (Some x) e = HasLooked d (Read (owner (latest_of d b.0) (place_at b.0)) x ∷ []) e
  TellsField d b told e = ⊥

  -- the looks for a subject: none where `up` is empty, else a lock, and where that gave an owner, a look at its field 0
  abbrev pub IsAsked : NumberedHandle → Option ℕ → List (Event V) → Type 0
  IsAsked up None looks = looks ≡ cond (has_object up) (Lock up false ∷ []) []
  IsAsked up (Some x) looks =
      (b : ℕ) × (looks ≡ Read (owner (object_of up) (place_at b)) x ∷ Lock up true ∷ [])

  -- a node is visited: its `up` is loaded, the subject asked, and its `next` loaded
  pub record IsStop (s : SeenNode) (looks : List (Event V)) : Type 0 where
    pub asked : List (Event V)
    pub asks : IsAsked s.up s.told asked
    pub are : looks ≡ Load (Member s.object 1) s.next ∷ (asked ++ Load (Member s.object 2) s.up ∷ [])

  -- visits to the nodes from a handle on, each through the `next` before it, down to this handle; the newest first
  abbrev pub Walks : NumberedHandle → List SeenNode → NumberedHandle → List (Event V) → Type 0
  Walks h [] end looks = (end ≡ h) × (looks ≡ [])
  Walks h (s ∷ stops) end looks =
      (at : NumberedHandle) × (before here : List (Event V)) × Walks h stops at before × (at.object ≡ Some s.object)
      × IsStop s here × (end ≡ s.next)
      × (looks ≡ here ++ before)

  -- one visit to what a handle owns, which tells this and goes on to that
  pub record VisitsNode (d : DeskNow V) (h : NumberedHandle) (told : Option ℕ) (next : Shared) (e : DeskNow V) : Type 0
    where
      pub stop : SeenNode
      pub looks : List (Event V)
      pub is : IsStop stop looks
      pub node : h.object ≡ Some stop.object
      pub tells : stop.told ≡ told
      pub goes_on : node_in e next ≡ stop.next
      pub looked : HasLooked d looks e

  abbrev pub IsNodeVisit : DeskNow V → NumberedHandle → Visited → DeskNow V → Type 0
  IsNodeVisit d h End e = Does IsParting d e × ((o : ℕ) → OwnsObject (state_of d) h o → ⊥)
  IsNodeVisit d h (Passed next) e = VisitsNode d h None next e
  IsNodeVisit d h (Told x next) e = VisitsNode d h (Some x) next e

  abbrev pub HandsVisited : List NumberedHandle → Visited → DeskNow V → Type 0
  HandsVisited base End e = HasHands base [] e
  HandsVisited base (Passed next) e = HasHands base (next ∷ []) e
  HandsVisited base (Told x next) e = HasHands base (next ∷ []) e

  abbrev pub HeldVisited : DeskNow V → Visited → DeskNow V → Type 0
  HeldVisited d End e = e.held + 1 ≡ d.held
  HeldVisited d _ e = e.held ≡ d.held

  -- from a handle on all nodes were visited, down to what owns no object that it points into; what they told, the
  -- newest first
  pub record WalksFrom (d : DeskNow V) (first : NumberedHandle) (told : List ℕ) (e : DeskNow V) : Type 0 where
    pub stops : List SeenNode
    pub looks : List (Event V)
    pub end : NumberedHandle
    pub at : DeskNow V
    pub walks : Walks first stops end looks
    pub looked : HasLooked d looks at
    pub leaves : Does IsParting at e
    pub none : (o : ℕ) → OwnsObject (state_of at) end o → ⊥
    pub tells : told ≡ told_of stops

  -- each: the cell was loaded, and all nodes from there on visited
  pub record WalksOver (d : DeskNow V) (c : Cell) (told : List ℕ) (e : DeskNow V) : Type 0 where
    pub first : NumberedHandle
    pub loaded : DeskNow V
    pub loads : AddsEvent d (Load c first) loaded
    pub walks : WalksFrom loaded first told e

  -- the list in the cell is there still, and its living subjects told, the first node's at first
  abbrev pub IsToldList : DeskNow V → Cell → List ℕ → DeskNow V → Type 0
  IsToldList d c told e = (os : List ℕ) → IsList (state_of d) c os → IsList (state_of e) c os
      × (told ≡ told_by (state_of d) [] os)
