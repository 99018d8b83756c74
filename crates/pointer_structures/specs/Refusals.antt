-- Why a call on a structure was not done (own).
use Rattle.std.specs.Prelude.{Some}
use Rattle.control_word.specs.declared.model.handle.Kind.TheVariants.{Weak}
use Rattle.control_block.specs.Desks.{DeskNow}
use Rattle.pointers.specs.Faults.{WhyNoMore}
use Rattle.pointers.specs.ListChanges.{IsListRefused}
use Rattle.pointers.specs.Places.{WhyNotDoneAt}
use Rattle.pointers.specs.Sites.{Site, member_site}
use Rattle.pointers.specs.declared.fault.Fault.{Fault}
use Rattle.pointers.specs.declared.fault.call.Call.{Call}
use Rattle.pointers.specs.declared.fault.call.Call.TheVariants.{Downgrade}
use Rattle.pointers.specs.declared.known.Known.{Known}

module _ {V : Type 0} (o : DeskNow V) where
  -- a call on the place of a chain of nodes was refused, on one behind a node, or one for an owner more of a node
  abbrev pub IsChainRefused : Site V → Fault → Type 0
  IsChainRefused s why = IsListRefused o (λ c w. ⊥) s why

  -- a call on the node's `up` was refused
  abbrev pub IsUpRefused : Known V → Fault → Type 0
  IsUpRefused node why = (call : Call) × WhyNotDoneAt o Weak (member_site node 0) call why

  -- there was no weak pointer to the node's object
  abbrev pub WhyNotWatched : Known V → Fault → Type 0
  WhyNotWatched node why = WhyNoMore o (Some node) Downgrade why
