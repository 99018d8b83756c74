-- Why a call on a place of a trie was refused.
use Rattle.std.proofs.Common.{inl, inr, sym, subst}
use Rattle.control_word.specs.declared.model.handle.Kind.{Kind}
use Rattle.control_block.specs.Desks.{DeskNow}
use Rattle.pointers.specs.Places.{WhyNoCell, WhyNotDoneAt}
use Rattle.pointers.specs.Sites.{Site}
use Rattle.pointers.specs.declared.cells.location.Location.TheVariants.{Free, Member}
use Rattle.pointers.specs.declared.fault.Fault.{Fault}
use Rattle.pointers.specs.declared.fault.call.Call.{Call}
use Rattle.shared_trie.specs.Refusals.{WhyNotFound}

module _ {V : Type 0} (o : DeskNow V) where
  no_cell : (k : Kind) (s : Site V) (call : Call) (why : Fault) → WhyNoCell o k s call why → WhyNotFound why
  no_cell k (Free n) call why (over, is) = subst (λ (y : Fault). WhyNotFound y) (sym is) tt
  no_cell k (Member c n) call why (inl (inl (none, is))) = subst (λ (y : Fault). WhyNotFound y) (sym is) tt
  no_cell k (Member c n) call why (inl (inr (out, is))) = subst (λ (y : Fault). WhyNotFound y) (sym is) tt
  no_cell k (Member c n) call why (inr (beyond, is)) = subst (λ (y : Fault). WhyNotFound y) (sym is) tt

  pub not_done : (k : Kind) (s : Site V) (call : Call) (why : Fault) → WhyNotDoneAt o k s call why → WhyNotFound why
  not_done k s call why (inl cell) = no_cell k s call why cell
  not_done k s call why (inr (inl is)) = subst (λ (y : Fault). WhyNotFound y) (sym is) tt
  not_done k s call why (inr (inr (is, was))) = subst (λ (y : Fault). WhyNotFound y) (sym is) tt
