use Rattle.std.proofs.Common.{ap, Option, inr, sym, ◌∙◌}
use Rattle.pointers.specs.declared.known.Known.{Known}
use Rattle.pointers.specs.Lists.{behind}
use Rattle.pointers.proofs.Handles.{errs_map}
use Rattle.pointer_structures.specs.Trees.{first_of}
use Rattle.pointer_structures.proofs.Steps.{refused_in, unlinks}
use Rattle.pointer_structures.proofs.tree.unlink.Goals as goal

pub returns-in-Some-clause-out : goal.returns-in-Some-clause-out
returns-in-Some-clause-out g c =
    let here = ap (λ (b : Option (Known g.row.D-Value.Denot)). behind b (first_of c.args.parent.now)) c.in-Some.is in
    unlinks g.D.Domain.opened _ _ c.args.child c.args.node.now c.in_ok-rest.rest _ _ c.compare_exchange_strong.result
    (here ∙ sym c.next-in-Some.ensures) c.in_ok-rest.ensures.led c.compare_exchange_strong.ensures.compared

pub returns-clause-out : goal.returns-clause-out
returns-clause-out g c =
    let here = ap (λ (b : Option (Known g.row.D-Value.Denot)). behind b (first_of c.args.parent.now)) c.in-None.is in
    unlinks g.D.Domain.opened _ _ c.args.child c.args.node.now c.in_ok-rest.rest _ _ c.compare_exchange_strong-in-None.result
    (here ∙ sym c.first.ensures) c.in_ok-rest.ensures.led c.compare_exchange_strong-in-None.ensures.compared

pub returns-in-Some-clause-fault : goal.returns-in-Some-clause-fault
returns-in-Some-clause-fault g c =
    let here = ap (λ (b : Option (Known g.row.D-Value.Denot)). behind b (first_of c.args.parent.now)) c.in-Some.is in
    errs_map _ _ c.compare_exchange_strong.result (λ why not. inr (refused_in g.D.Domain.opened _ _ _ why
    (here ∙ sym c.next-in-Some.ensures) not)) c.compare_exchange_strong.ensures.refused

pub returns-clause-fault : goal.returns-clause-fault
returns-clause-fault g c =
    let here = ap (λ (b : Option (Known g.row.D-Value.Denot)). behind b (first_of c.args.parent.now)) c.in-None.is in
    errs_map _ _ c.compare_exchange_strong-in-None.result (λ why not. inr (refused_in g.D.Domain.opened _ _ _ why
    (here ∙ sym c.first.ensures) not)) c.compare_exchange_strong-in-None.ensures.refused
