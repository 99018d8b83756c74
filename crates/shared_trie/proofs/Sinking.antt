-- An entry goes into a new node.
use Rattle.std.proofs.Common.{◌≡◌, ℕ, Bool, false, Option, Some, Result, Ok, Err, IfOk}
use Rattle.control_word.specs.declared.model.handle.Kind.TheVariants.{Owner}
use Rattle.control_block.specs.Desks.{DeskNow}
use Rattle.pointers.specs.Known.{AreOfOne, pointed}
use Rattle.pointers.specs.Objects.{IsField}
use Rattle.pointers.specs.SiteCalls.{Compared, Stored}
use Rattle.pointers.specs.Sites.{Site, member_site}
use Rattle.pointers.specs.declared.fault.Fault.{Fault}
use Rattle.pointers.specs.declared.known.Known.{Known}
use Rattle.shared_trie.proofs.Steps.{at_member}
use Rattle.shared_trie.specs.Tries.{IsNewNode, Sinks, number_at}

module _ {V : Type 0} (o : DeskNow V) where
  pub sinks : (at first : Site V) (c new copy : Known V) (key l m : ℕ) (hoped after : Option (Known V))
      (r : Result Bool Fault) → IsField o c key → IsNewNode o new → AreOfOne o c copy → pointed copy ≡ pointed c
      → m ≡ number_at key l → first ≡ member_site new m → Stored o Owner first (Some copy)
      → IfOk r (λ (swapped : Bool). Compared o Owner at false (Some c) (Some new) swapped hoped after)
      → IfOk r (Sinks o at c l)
  sinks at first c new copy key l m hoped after (Ok b) field node one place number there stored compared = (
    key,
    new,
    copy,
    hoped,
    after,
    field,
    node,
    one,
    place,
    at_member (λ (y : Site V). Stored o Owner y (Some copy)) key l m new first number there stored,
    compared,
  )
  sinks at first c new copy key l m hoped after (Err why) field node one place number there stored compared = tt
