use Rattle.control_word.specs.declared.model.handle.Kind.TheVariants.{Owner}
use Rattle.shared_trie.proofs.Reasons.{not_done}
use Rattle.shared_trie.proofs.slot.swap.Goals as goal

pub returns-in-Some-new-clause-refused : goal.returns-in-Some-new-clause-refused
returns-in-Some-new-clause-refused g c =
    not_done g.D.Domain.opened Owner c.args.place.now _ _ c.in-Err.ensures.refused
