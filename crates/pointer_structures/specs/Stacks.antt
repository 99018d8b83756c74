-- What the calls of a stack say (own): each node owns the one below it by its `next`.
use Rattle.std.specs.Prelude.{◌⊎◌, Option, None, Some}
use Rattle.control_block.specs.Desks.{DeskNow}
use Rattle.pointers.specs.ListChanges.{Follows, IsRefusedAt, Swaps}
use Rattle.pointers.specs.Lists.{Leads, next_of}
use Rattle.pointers.specs.Sites.{Site}
use Rattle.pointers.specs.declared.fault.Fault.{Fault}
use Rattle.pointers.specs.declared.known.Known.{Known}
use Rattle.pointer_structures.specs.Refusals.{IsChainRefused}

module _ {V : Type 0} where
  -- by one step the node is in the place, and its `next` owns what that held
  pub record GoesFirst (o : DeskNow V) (s : Site V) (node : Known V) : Type 0 where
    pub first : Option (Known V)
    pub follows : Follows o node first
    pub comes : Swaps o s first (Some node)

  -- or why not: a call on the node's `next` was refused, or on the stack
  abbrev pub WhyNotPushed : DeskNow V → Site V → Known V → Fault → Type 0
  WhyNotPushed o s node why = IsRefusedAt o (next_of node) why ⊎ IsChainRefused o s why

  -- by one step the node went out of the place, and what its `next` owned is there
  pub record TakesTop (o : DeskNow V) (s : Site V) (node : Known V) : Type 0 where
    pub leads : Leads o s (Some node)
    pub below : Option (Known V)
    pub next : Leads o (next_of node) below
    pub out : Swaps o s (Some node) below

  -- it did, or there was none
  abbrev pub Pops : DeskNow V → Site V → Option (Known V) → Type 0
  Pops o s None = Leads o s None
  Pops o s (Some node) = TakesTop o s node
