use Rattle.std.proofs.Common.{◌≡◌, Err, rules}
use Rattle.control_word.specs.declared.model.handle.Kind.TheVariants.{Owner}
use Rattle.pointers.proofs.ListSteps.{fault_is}
use Rattle.shared_trie.proofs.Reasons.{not_done}
use Rattle.shared_trie.specs.Refusals.{WhyNotFound}
use Rattle.shared_trie.proofs.slot.take.Goals as goal

pub returns-in_err-compare_exchange_strong-clause-refused : goal.returns-in_err-compare_exchange_strong-clause-refused
returns-in_err-compare_exchange_strong-clause-refused g c =
    let from = c.from_residual.ensures in
    let same : c.from_residual.result ≡ Err c.in_err-compare_exchange_strong.field-0.0 = search (from, rules) in
    fault_is WhyNotFound _ _
    (not_done g.D.Domain.opened Owner c.args.place.now _ _ c.in_err-compare_exchange_strong.ensures.refused) same
