use Rattle.std.proofs.Common.{inl}
use Rattle.control_word.specs.declared.model.handle.Kind.TheVariants.{Owner}
use Rattle.pointers.proofs.Handles.{errs_map}
use Rattle.shared_vec.proofs.Growth.{grows}
use Rattle.shared_vec.proofs.Reasons.{not_done}
use Rattle.shared_vec.proofs.vector.SharedVec.grow.Goals as goal

pub returns-clause-grown : goal.returns-clause-grown
returns-clause-grown g c =
    grows g.D.Domain.opened c.args.self.now.place c.first.result c.args.root c.in_ok-new.new c.in_ok-share.field-0
    c.args.level c.from.result c.default.result c.compare_exchange_strong.new.expected
    c.compare_exchange_strong.new.desired c.compare_exchange_strong.result c.from.ensures c.in_ok-new.ensures.made
    c.in_ok-share.ensures.one c.first.ensures c.in_ok-store.ensures.stored c.compare_exchange_strong.ensures.compared

pub returns-clause-refused : goal.returns-clause-refused
returns-clause-refused g c =
    errs_map _ _ c.compare_exchange_strong.result
    (λ why not. inl (not_done g.D.Domain.opened Owner c.args.self.now.place _ why not))
    c.compare_exchange_strong.ensures.refused
