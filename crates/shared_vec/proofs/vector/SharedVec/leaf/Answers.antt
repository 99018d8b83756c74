use Rattle.std.proofs.Common.{◌≡◌, Err, rules}
use Rattle.control_word.specs.declared.model.handle.Kind.TheVariants.{Owner}
use Rattle.pointers.proofs.ListSteps.{fault_is}
use Rattle.shared_vec.proofs.Reasons.{not_done}
use Rattle.shared_vec.specs.Refusals.{WhyNotFound}
use Rattle.shared_vec.proofs.vector.SharedVec.leaf.Goals as goal

pub returns-in_err-root-clause-refused : goal.returns-in_err-root-clause-refused
returns-in_err-root-clause-refused g c =
    let from = c.from_residual.ensures in
    let same : c.from_residual.result ≡ Err c.in_err-root.field-0.0 = search (from, rules) in
    fault_is WhyNotFound _ _
    (not_done g.D.Domain.opened Owner c.args.self.now.place _ _ c.in_err-root.ensures.refused) same
