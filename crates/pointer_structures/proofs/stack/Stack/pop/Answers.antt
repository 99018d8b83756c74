use Rattle.std.proofs.Common.{rules, ◌≡◌, Err, subst}
use Rattle.pointers.proofs.ListSteps.{fault_is, refused_here, refused_second}
use Rattle.pointers.specs.Lists.{Leads}
use Rattle.pointer_structures.specs.Refusals.{IsChainRefused}
use Rattle.pointer_structures.proofs.Steps.{takes_top}
use Rattle.pointer_structures.proofs.stack.Stack.pop.Goals as goal

pub returns-in_err-node-clause-fault : goal.returns-in_err-node-clause-fault
returns-in_err-node-clause-fault g c =
    let from = c.from_residual.ensures in
    let same : c.from_residual.result ≡ Err c.in_err-node.field-0.0 = search (from, rules) in
    fault_is (IsChainRefused g.D.Domain.opened c.args.self.now) _ _
    (refused_here g.D.Domain.opened (λ d w. ⊥) c.args.self.now c.in_err-node.field-0.0 c.in_err-node.ensures.fault) same

pub returns-in_err-below-clause-fault : goal.returns-in_err-below-clause-fault
returns-in_err-below-clause-fault g c =
    let from = c.from_residual-in_err-below.ensures in
    let same : c.from_residual-in_err-below.result ≡ Err c.in_err-below.field-0.0 = search (from, rules) in
    fault_is (IsChainRefused g.D.Domain.opened c.args.self.now) _ _
    (refused_second g.D.Domain.opened (λ d w. ⊥) c.args.self.now c.in_ok-node.field-0 c.in-Some-2.node c.in_err-below.field-0.0
    c.in_ok-node.ensures.led c.in-Some-2.is c.in_err-below.ensures.fault) same

pub returns-in_err-swap-clause-fault : goal.returns-in_err-swap-clause-fault
returns-in_err-swap-clause-fault g c =
    let from = c.from_residual-in_err-swap.ensures in
    let same : c.from_residual-in_err-swap.result ≡ Err c.in_err-swap.field-0.0 = search (from, rules) in
    fault_is (IsChainRefused g.D.Domain.opened c.args.self.now) _ _
    (refused_here g.D.Domain.opened (λ d w. ⊥) c.args.self.now c.in_err-swap.field-0.0 c.in_err-swap.ensures.fault) same

pub returns-in_default-clause-popped : goal.returns-in_default-clause-popped
returns-in_default-clause-popped g c =
    subst (Leads g.D.Domain.opened c.args.self.now) c.in_default.is c.in_ok-node.ensures.led

pub returns-then-branch-clause-popped : goal.returns-then-branch-clause-popped
returns-then-branch-clause-popped g c =
    takes_top g.D.Domain.opened c.args.self.now c.in_ok-node.field-0 c.swap.new.expected c.in_ok-below.below c.in-Some-2.node
    c.in_ok-swap.field-0 c.in_ok-node.ensures.led c.in-Some-2.is (c.in_ok-swap.ensures.kept c.if-branch.true)
    c.in_ok-below.ensures.led c.in_ok-swap.ensures.swapped c.if-branch.true
