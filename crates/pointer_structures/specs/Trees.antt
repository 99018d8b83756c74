-- What the calls of a tree say (own): a node owns its first child by `first` and its next sibling by `next`, and `up`
-- is back to its parent.
use Rattle.std.specs.Prelude.{◌≡◌, ◌⊎◌, All, List, Option, None, Some}
use Rattle.control_block.specs.Desks.{DeskNow}
use Rattle.pointers.specs.Known.{AreOfOne, owned}
use Rattle.pointers.specs.ListChanges.{Comes, IsPlaceOf, IsRefusedAt, Passes, Swaps}
use Rattle.pointers.specs.ListRemovals.{IsOther}
use Rattle.pointers.specs.Lists.{Leads, next_of}
use Rattle.pointers.specs.SiteCalls.{Locked, WhyNotLocked}
use Rattle.pointers.specs.Sites.{Site, member_site}
use Rattle.pointers.specs.declared.fault.Fault.{Fault}
use Rattle.pointers.specs.declared.known.Known.{Known}
use Rattle.pointer_structures.specs.Refusals.{IsChainRefused, IsUpRefused, WhyNotWatched}
use Rattle.pointer_structures.specs.Stacks.{GoesFirst, WhyNotPushed}
use Rattle.pointer_structures.specs.Watches.{ComesUp}

module _ {V : Type 0} where
  -- the place of a node's first child
  abbrev pub first_of : Known V → Site V
  first_of c = member_site c 0

  -- an owner of what the node's `up` is of, or none
  abbrev pub HasParent : DeskNow V → Known V → Option (Known V) → Type 0
  HasParent o node parent = Locked o (member_site node 0) parent

  -- by one step what the node's `next` owned is in the place, which held this child
  abbrev pub Unlinks : DeskNow V → Site V → Known V → Known V → Type 0
  Unlinks o s child node = (rest : Option (Known V)) × Leads o (next_of node) rest × Swaps o s (Some child) rest

  -- the node went out of a place of the children so
  pub record LeavesChildren (o : DeskNow V) (parent node : Known V) : Type 0 where
    pub at : Site V
    pub place : IsPlaceOf o (first_of parent) at
    pub held : Known V
    pub same : owned held ≡ owned node
    pub out : Unlinks o at held node

  -- the children came to their end, and the node is none of them
  pub record IsNoChild (o : DeskNow V) (parent node : Known V) : Type 0 where
    pub children : List (Known V)
    pub at : Site V
    pub passes : Passes o (first_of parent) children at
    pub ends : Leads o at None
    pub others : All (IsOther node) children

  -- the node went out of its parent's children, if it was among them, and its `next` and `up` are empty
  pub record Leaves (o : DeskNow V) (node : Known V) : Type 0 where
    pub parent : Known V
    pub has : HasParent o node (Some parent)
    pub out : LeavesChildren o parent node ⊎ IsNoChild o parent node
    pub next : Comes o (next_of node) None
    pub up : ComesUp o node None

  -- it did, or it has no parent
  abbrev pub Detaches : DeskNow V → Known V → Type 0
  Detaches o node = Leaves o node ⊎ HasParent o node None

  -- why a call on a parent's children or on the node's `next` was refused
  abbrev pub IsChildRefused : DeskNow V → Known V → Known V → Fault → Type 0
  IsChildRefused o parent node why = IsRefusedAt o (next_of node) why ⊎ IsChainRefused o (first_of parent) why

  -- why a node was not detached: its parent was not found, or a call on its `up`, its `next` or the children was
  -- refused
  abbrev pub WhyNotDetached : DeskNow V → Known V → Fault → Type 0
  WhyNotDetached o node why =
      WhyNotLocked o (member_site node 0) why
      ⊎ IsUpRefused o node why
      ⊎ ((parent : Known V) × HasParent o node (Some parent) × IsChildRefused o parent node why)

  -- the child left its parent, if it had one, its `up` is of the new one, and it is the first of that one's children
  pub record Joins (o : DeskNow V) (parent child : Known V) : Type 0 where
    pub detaches : Detaches o child
    pub up : Known V
    pub same : AreOfOne o parent up
    pub comes : ComesUp o child (Some up)
    pub first : GoesFirst o (first_of parent) child

  -- or why not: it was not detached, there was no weak pointer to the parent, or a call on the child's `up` or `next`
  -- or on the children was refused
  abbrev pub WhyNotJoined : DeskNow V → Known V → Known V → Fault → Type 0
  WhyNotJoined o parent child why =
      WhyNotDetached o child why
      ⊎ WhyNotWatched o parent why
      ⊎ IsUpRefused o child why
      ⊎ WhyNotPushed o (first_of parent) child why
