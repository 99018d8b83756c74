use Rattle.std.proofs.Common.{rules, ◌≡◌, Err, None, inl}
use Rattle.pointers.specs.ListChanges.{IsListRefused}
use Rattle.pointers.proofs.ListSteps.{fault_is, passed_none, refused_behind, refused_first, refused_here}
use Rattle.pointers.proofs.ListSteps.{refused_second, takes_first, takes_none}
use Rattle.pointers.proofs.list.List.pop_front.Goals as goal

pub returns-in_err-node-clause-fault : goal.returns-in_err-node-clause-fault
returns-in_err-node-clause-fault g c =
    let from = c.from_residual.ensures in
    let same : c.from_residual.result ≡ Err c.in_err-node.field-0.0 = search (from, rules) in
    fault_is (IsListRefused g.D.Domain.opened g.E.Element.refused c.args.self.now) _ _
    (refused_behind g.D.Domain.opened g.E.Element.refused c.args.self.now None c.in_err-node.field-0.0
    (passed_none g.D.Domain.opened c.args.self.now) c.in_err-node.ensures.refused) same

pub returns-in_err-element-clause-fault : goal.returns-in_err-element-clause-fault
returns-in_err-element-clause-fault g c =
    let from = c.from_residual-in_err-element.ensures in
    let same : c.from_residual-in_err-element.result ≡ Err c.in_err-element.field-0.0 = search (from, rules) in
    fault_is (IsListRefused g.D.Domain.opened g.E.Element.refused c.args.self.now) _ _
    (refused_first g.D.Domain.opened g.E.Element.refused c.args.self.now c.in_ok-node.field-0 c.in-Some-2.node c.in_err-element.field-0.0
    c.in_ok-node.ensures.led c.in-Some-2.is (inl c.in_err-element.ensures.refused)) same

pub returns-in_err-rest-clause-fault : goal.returns-in_err-rest-clause-fault
returns-in_err-rest-clause-fault g c =
    let from = c.from_residual-in_err-rest.ensures in
    let same : c.from_residual-in_err-rest.result ≡ Err c.in_err-rest.field-0.0 = search (from, rules) in
    fault_is (IsListRefused g.D.Domain.opened g.E.Element.refused c.args.self.now) _ _
    (refused_second g.D.Domain.opened g.E.Element.refused c.args.self.now c.in_ok-node.field-0 c.in-Some-2.node c.in_err-rest.field-0.0
    c.in_ok-node.ensures.led c.in-Some-2.is c.in_err-rest.ensures.refused) same

pub returns-in_err-swap_first-clause-fault : goal.returns-in_err-swap_first-clause-fault
returns-in_err-swap_first-clause-fault g c =
    let from = c.from_residual-in_err-swap_first.ensures in
    let same : c.from_residual-in_err-swap_first.result ≡ Err c.in_err-swap_first.field-0.0 = search (from, rules) in
    fault_is (IsListRefused g.D.Domain.opened g.E.Element.refused c.args.self.now) _ _
    (refused_here g.D.Domain.opened g.E.Element.refused c.args.self.now c.in_err-swap_first.field-0.0 c.in_err-swap_first.ensures.refused) same

pub returns-in_default-clause-popped : goal.returns-in_default-clause-popped
returns-in_default-clause-popped g c =
    takes_none g.D.Domain.opened g.E.Element.copied c.args.self.now c.in_ok-node.field-0 c.in_ok-node.ensures.led c.in_default.is

pub returns-then-branch-clause-popped : goal.returns-then-branch-clause-popped
returns-then-branch-clause-popped g c =
    takes_first g.D.Domain.opened g.E.Element.copied c.args.self.now c.in_ok-node.field-0 c.in-Some-2.node c.in_ok-element.element c.in_ok-rest.rest
    c.in_ok-swap_first.field-0 c.in_ok-node.ensures.led c.in-Some-2.is c.in_ok-element.ensures.copied
    c.in_ok-rest.ensures.led c.in_ok-swap_first.ensures.swapped c.if-branch.true
