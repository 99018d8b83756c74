use Rattle.std.proofs.Common.{◌≡◌, Err, inl, rules}
use Rattle.control_word.specs.declared.model.handle.Kind.TheVariants.{Owner}
use Rattle.pointers.proofs.ListSteps.{fault_is}
use Rattle.shared_trie.proofs.Reasons.{not_done}
use Rattle.shared_trie.specs.Refusals.{WhyNotPut}
use Rattle.shared_trie.proofs.node.node_in.Goals as goal

pub returns-in_err-node-clause-refused : goal.returns-in_err-node-clause-refused
returns-in_err-node-clause-refused g c =
    let from = c.from_residual.ensures in
    let same : c.from_residual.result ≡ Err c.in_err-node.field-0.0 = search (from, rules) in
    fault_is WhyNotPut _ _ (inl (not_done g.D.Domain.opened Owner c.args.place.now _ _ c.in_err-node.ensures.refused)) same

pub returns-in_err-compare_exchange_strong-clause-refused : goal.returns-in_err-compare_exchange_strong-clause-refused
returns-in_err-compare_exchange_strong-clause-refused g c =
    let from = c.from_residual-in_err-compare_exchange_strong.ensures in
    let same : c.from_residual-in_err-compare_exchange_strong.result ≡ Err c.in_err-compare_exchange_strong.field-0.0 =
    search (from, rules) in
    fault_is WhyNotPut _ _
    (inl (not_done g.D.Domain.opened Owner c.args.place.now _ _ c.in_err-compare_exchange_strong.ensures.refused)) same
