-- What the calls of observers say (own): each node watches a subject by its `up`.
use Rattle.std.specs.Prelude.{◌⊎◌, Option, Some}
use Rattle.control_word.specs.declared.model.handle.Kind.TheVariants.{Weak}
use Rattle.control_block.specs.Desks.{DeskNow}
use Rattle.pointers.specs.Known.{AreOfOne}
use Rattle.pointers.specs.ListChanges as list
use Rattle.pointers.specs.Lists.{IsMemberRefused}
use Rattle.pointers.specs.SiteCalls.{Stored}
use Rattle.pointers.specs.Sites.{Site, member_site}
use Rattle.pointers.specs.declared.fault.Fault.{Fault}
use Rattle.pointers.specs.declared.known.Known.{Known}
use Rattle.pointer_structures.specs.Refusals.{WhyNotWatched}

module _ {V : Type 0} (o : DeskNow V) where
  -- that pointer, or an empty one, came into the node's `up`
  abbrev pub ComesUp : Known V → Option (Known V) → Type 0
  ComesUp node up = Stored o Weak (member_site node 0) up

  -- a new node with this value that watches the subject came in front of the observers
  pub record Watches (s : Site V) (subject : Known V) (x : V) : Type 0 where
    pub weak : Known V
    pub same : AreOfOne o subject weak
    pub first : list.Heads o (λ node w. ComesUp node (Some w)) s weak x

  -- or why not: there was no weak pointer to the subject, or it didn't come into the list
  abbrev pub WhyNotAttached : Site V → Known V → V → Fault → Type 0
  WhyNotAttached s subject x why =
      WhyNotWatched o subject why ⊎ list.WhyNotPushed o (IsMemberRefused o) s x why
