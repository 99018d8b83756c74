use Rattle.std.proofs.Common.{ap, Option, sym, ◌∙◌, IfOk, subst}
use Rattle.pointers.specs.declared.known.Known.{Known}
use Rattle.pointers.specs.Lists.{Leads, behind}
use Rattle.pointers.specs.Sites.{Site}
use Rattle.pointers.proofs.Handles.{errs_map}
use Rattle.pointer_structures.specs.Trees.{first_of}
use Rattle.pointer_structures.proofs.Steps.{refused_in}
use Rattle.pointer_structures.proofs.tree.child_behind.Goals as goal

pub returns-in-Some-clause-led : goal.returns-in-Some-clause-led
returns-in-Some-clause-led g c =
    let here = ap (λ (b : Option (Known g.row.D-Value.Denot)). behind b (first_of c.args.parent.now)) c.in-Some.is in
    subst (λ (s : Site g.row.D-Value.Denot). IfOk c.load.result (Leads g.D.Domain.opened s)) (c.next.ensures ∙ sym here)
    c.load.ensures.loaded

pub returns-in-None-clause-led : goal.returns-in-None-clause-led
returns-in-None-clause-led g c =
    let here = ap (λ (b : Option (Known g.row.D-Value.Denot)). behind b (first_of c.args.parent.now)) c.in-None.is in
    subst (λ (s : Site g.row.D-Value.Denot). IfOk c.load-in-None.result (Leads g.D.Domain.opened s)) (c.first.ensures ∙ sym here)
    c.load-in-None.ensures.loaded

pub returns-in-Some-clause-fault : goal.returns-in-Some-clause-fault
returns-in-Some-clause-fault g c =
    let here = ap (λ (b : Option (Known g.row.D-Value.Denot)). behind b (first_of c.args.parent.now)) c.in-Some.is in
    errs_map _ _ c.load.result (λ why not. refused_in g.D.Domain.opened _ _ _ why (here ∙ sym c.next.ensures) not)
    c.load.ensures.refused

pub returns-in-None-clause-fault : goal.returns-in-None-clause-fault
returns-in-None-clause-fault g c =
    let here = ap (λ (b : Option (Known g.row.D-Value.Denot)). behind b (first_of c.args.parent.now)) c.in-None.is in
    errs_map _ _ c.load-in-None.result (λ why not. refused_in g.D.Domain.opened _ _ _ why (here ∙ sym c.first.ensures) not)
    c.load-in-None.ensures.refused
