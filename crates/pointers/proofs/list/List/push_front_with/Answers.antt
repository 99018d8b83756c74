use Rattle.std.proofs.Common.{rules, ◌≡◌, ◌∙◌, Err, None, inl, inr, refl}
use Rattle.pointers.specs.ListChanges.{WhyNotPushed}
use Rattle.pointers.proofs.ListSteps.{fault_is, heads, passed_none, refused_behind, refused_follow}
use Rattle.pointers.proofs.ListSteps.{refused_here}
use Rattle.pointers.proofs.list.List.push_front_with.Goals as goal

pub loop-init : goal.loop-init
loop-init g c = (c.in_ok-node.field-0, c.in_ok-node.ensures.made, refl)

pub returns-in_err-node-clause-fault : goal.returns-in_err-node-clause-fault
returns-in_err-node-clause-fault g c =
    let from = c.from_residual.ensures in
    let same : c.from_residual.result ≡ Err c.in_err-node.field-0.0 = search (from, rules) in
    fault_is (WhyNotPushed g.D.Domain.opened g.E.Element.refused c.args.self.now c.args.value) _ _
    (inl c.in_err-node.ensures.refused) same

pub returns-in_err-first-clause-fault : goal.returns-in_err-first-clause-fault
returns-in_err-first-clause-fault g c =
    let from = c.from_residual-in_err-first.ensures in
    let same : c.from_residual-in_err-first.result ≡ Err c.in_err-first.field-0.0 = search (from, rules) in
    fault_is (WhyNotPushed g.D.Domain.opened g.E.Element.refused c.args.self.now c.args.value) _ _
    (inr (refused_behind g.D.Domain.opened g.E.Element.refused c.args.self.now None c.in_err-first.field-0.0
    (passed_none g.D.Domain.opened c.args.self.now) c.in_err-first.ensures.refused)) same

pub returns-in_err-follow-clause-fault : goal.returns-in_err-follow-clause-fault
returns-in_err-follow-clause-fault g c =
    let from = c.from_residual-in_err-follow.ensures in
    let same : c.from_residual-in_err-follow.result ≡ Err c.in_err-follow.field-0.0 = search (from, rules) in
    fault_is (WhyNotPushed g.D.Domain.opened g.E.Element.refused c.args.self.now c.args.value) _ _
    (refused_follow g.D.Domain.opened g.E.Element.refused c.args.self.now c.args.value c.loop.invariant.0 c.loop.node c.in_ok-first.first
    c.in_err-follow.field-0.0 c.loop.invariant.1.0 c.loop.invariant.2 c.in_ok-first.ensures.led
    c.in_err-follow.ensures.refused) same

pub returns-in_err-swap_first-clause-fault : goal.returns-in_err-swap_first-clause-fault
returns-in_err-swap_first-clause-fault g c =
    let from = c.from_residual-in_err-swap_first.ensures in
    let same : c.from_residual-in_err-swap_first.result ≡ Err c.in_err-swap_first.field-0.0 = search (from, rules) in
    fault_is (WhyNotPushed g.D.Domain.opened g.E.Element.refused c.args.self.now c.args.value) _ _
    (inr (refused_here g.D.Domain.opened g.E.Element.refused c.args.self.now c.in_err-swap_first.field-0.0 c.in_err-swap_first.ensures.refused)) same

pub returns-then-branch-clause-pushed : goal.returns-then-branch-clause-pushed
returns-then-branch-clause-pushed g c =
    heads g.D.Domain.opened g.E.Element.goes_in c.args.self.now c.args.element c.args.value c.loop.invariant.0 c.loop.node c.in_ok-first.first
    c.in_ok-swap_first.field-0 c.loop.invariant.1 c.loop.invariant.2 c.in_ok-follow.ensures.follows
    c.in_ok-swap_first.ensures.swapped c.if-branch.true

pub loop-preserved-else-branch : goal.loop-preserved-else-branch
loop-preserved-else-branch g c =
    (c.loop.invariant.0, c.loop.invariant.1, c.in_ok-swap_first.ensures.stays c.if-branch.false ∙ c.loop.invariant.2)

pub loop-preserved : goal.loop-preserved
loop-preserved g c =
    (c.loop.invariant.0, c.loop.invariant.1, c.in_ok-swap_first.ensures.stays c.if-branch.false ∙ c.loop.invariant.2)
