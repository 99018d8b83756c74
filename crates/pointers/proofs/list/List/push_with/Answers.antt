use Rattle.std.proofs.Common.{rules, ◌≡◌, ◌∙◌, Err, inl, inr, refl}
use Rattle.pointers.proofs.Handles.{errs_map}
use Rattle.pointers.specs.ListChanges.{WhyNotPushed}
use Rattle.pointers.proofs.ListSteps.{appends_behind, appends_first, fault_is, on_ok, refused_here}
use Rattle.pointers.proofs.ListSteps.{refused_last}
use Rattle.pointers.proofs.list.List.push_with.Goals as goal

pub loop-init : goal.loop-init
loop-init g c = (c.in_ok-node.field-0, c.in_ok-node.ensures.made, refl)

pub returns-in_err-node-clause-fault : goal.returns-in_err-node-clause-fault
returns-in_err-node-clause-fault g c =
    let from = c.from_residual.ensures in
    let same : c.from_residual.result ≡ Err c.in_err-node.field-0.0 = search (from, rules) in
    fault_is (WhyNotPushed g.D.Domain.opened g.E.Element.refused c.args.self.now c.args.value) _ _
    (inl c.in_err-node.ensures.refused) same

pub returns-in-Some-2-clause-pushed : goal.returns-in-Some-2-clause-pushed
returns-in-Some-2-clause-pushed g c =
    on_ok c.put_behind.result _ _ (λ comes. appends_behind g.D.Domain.opened g.E.Element.goes_in c.args.self.now
    c.args.element c.args.value c.loop.invariant.0 c.loop.node c.in_ok-last.field-0 c.in-Some-2.last c.loop.invariant.1
    c.loop.invariant.2 c.in_ok-last.ensures.last c.in-Some-2.is comes) c.put_behind.ensures.comes

pub returns-in-Some-2-clause-fault : goal.returns-in-Some-2-clause-fault
returns-in-Some-2-clause-fault g c =
    errs_map _ _ c.put_behind.result (λ why not. inr (refused_last g.D.Domain.opened g.E.Element.refused c.args.self.now
    c.in_ok-last.field-0 c.in-Some-2.last why c.in_ok-last.ensures.last c.in-Some-2.is not))
    c.put_behind.ensures.refused

pub returns-in_err-swap_first-in-None-2-clause-fault :
    goal.returns-in_err-swap_first-in-None-2-clause-fault
returns-in_err-swap_first-in-None-2-clause-fault g c =
    let from = c.from_residual-in_err-swap_first-in-None-2.ensures in
    let same : c.from_residual-in_err-swap_first-in-None-2.result ≡ Err c.in_err-swap_first-in-None-2.field-0.0 =
    search (from, rules) in
    fault_is (WhyNotPushed g.D.Domain.opened g.E.Element.refused c.args.self.now c.args.value) _ _
    (inr (refused_here g.D.Domain.opened g.E.Element.refused c.args.self.now c.in_err-swap_first-in-None-2.field-0.0
    c.in_err-swap_first-in-None-2.ensures.refused)) same

pub returns-then-branch-clause-pushed : goal.returns-then-branch-clause-pushed
returns-then-branch-clause-pushed g c =
    appends_first g.D.Domain.opened g.E.Element.goes_in c.args.self.now c.args.element c.args.value c.loop.invariant.0 c.loop.node
    c.in_ok-last.field-0 c.loop.invariant.1 c.loop.invariant.2 c.in_ok-last.ensures.last c.in-None-2.is
    (c.in_ok-swap_first-in-None-2.ensures.swapped c.if-branch.true)

pub loop-preserved-else-branch : goal.loop-preserved-else-branch
loop-preserved-else-branch g c = (
  c.loop.invariant.0,
  c.loop.invariant.1,
  c.in_ok-swap_first-in-None-2.ensures.stays c.if-branch.false ∙ c.loop.invariant.2,
)

pub loop-preserved : goal.loop-preserved
loop-preserved g c = (
  c.loop.invariant.0,
  c.loop.invariant.1,
  c.in_ok-swap_first-in-None-2.ensures.stays c.if-branch.false ∙ c.loop.invariant.2,
)
