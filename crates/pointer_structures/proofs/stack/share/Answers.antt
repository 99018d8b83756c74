use Rattle.std.proofs.Common.{rules, ◌≡◌, Err, IsSomeAnd, Option, Some, subst, sym}
use Rattle.pointers.specs.declared.fault.Fault.{Fault}
use Rattle.pointers.specs.declared.known.Known.{Known}
use Rattle.pointers.specs.Faults.{WhyNoMore}
use Rattle.pointers.specs.declared.fault.call.Call.TheVariants.{Share}
use Rattle.pointers.proofs.ListSteps.{fault_is}
use Rattle.pointer_structures.proofs.stack.share.Goals as goal

pub returns-in_err-share-in-Some-clause-fault : goal.returns-in_err-share-in-Some-clause-fault
returns-in_err-share-in-Some-clause-fault g c =
    let from = c.from_residual.ensures in
    let same : c.from_residual.result ≡ Err c.in_err-share-in-Some.field-0.0 = search (from, rules) in
    fault_is (λ (why : Fault). IsSomeAnd c.args.of.now (λ (d : Known g.row.D-Value.Denot).
    WhyNoMore g.D.Domain.opened (Some d) Share why)) _ _
    (subst (λ (b : Option (Known g.row.D-Value.Denot)). IsSomeAnd b (λ (d : Known g.row.D-Value.Denot).
    WhyNoMore g.D.Domain.opened (Some d) Share c.in_err-share-in-Some.field-0.0)) (sym c.in-Some.is)
    c.in_err-share-in-Some.ensures.fault) same
