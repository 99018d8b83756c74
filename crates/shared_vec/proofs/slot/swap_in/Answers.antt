use Rattle.control_word.specs.declared.model.handle.Kind.TheVariants.{Owner}
use Rattle.shared_vec.proofs.Reasons.{not_done}
use Rattle.shared_vec.proofs.slot.swap_in.Goals as goal

pub returns-in-Some-clause-refused : goal.returns-in-Some-clause-refused
returns-in-Some-clause-refused g c =
    not_done g.D.Domain.opened Owner c.args.place.now _ _ c.in-Err.ensures.refused
