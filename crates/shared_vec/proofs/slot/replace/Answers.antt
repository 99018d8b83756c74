use Rattle.control_word.specs.declared.model.handle.Kind.TheVariants.{Owner}
use Rattle.shared_vec.proofs.EndSteps.{replaced}
use Rattle.shared_vec.proofs.Reasons.{not_done}
use Rattle.shared_vec.proofs.slot.replace.Goals as goal

pub returns-in-Err-clause-refused : goal.returns-in-Err-clause-refused
returns-in-Err-clause-refused g c =
    not_done g.D.Domain.opened Owner c.args.place.now _ _ c.in-Err.ensures.refused

pub returns-in-None-2-clause-done : goal.returns-in-None-2-clause-done
returns-in-None-2-clause-done g c =
    replaced g.D.Domain.opened c.args.place.now c.in-Ok-Some.held c.loop.new c.args.new c.in_ok-swap_in.field-0
    c.in_ok-swap_in.ensures.done c.in-None-2.is c.loop.invariant
