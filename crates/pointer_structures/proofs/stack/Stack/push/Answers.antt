use Rattle.std.proofs.Common.{rules, ◌≡◌, ◌∙◌, Err, inr}
use Rattle.pointers.proofs.ListSteps.{fault_is, refused_here}
use Rattle.pointer_structures.specs.Stacks.{WhyNotPushed}
use Rattle.pointer_structures.proofs.Steps.{follow_refused, goes_first}
use Rattle.pointer_structures.proofs.stack.Stack.push.Goals as goal

pub returns-in_err-first-clause-fault : goal.returns-in_err-first-clause-fault
returns-in_err-first-clause-fault g c =
    let from = c.from_residual.ensures in
    let same : c.from_residual.result ≡ Err c.in_err-first.field-0.0 = search (from, rules) in
    fault_is (WhyNotPushed g.D.Domain.opened c.args.self.now c.args.node) _ _
    (inr (refused_here g.D.Domain.opened (λ d w. ⊥) c.args.self.now c.in_err-first.field-0.0 c.in_err-first.ensures.fault)) same

pub returns-in_err-follow-clause-fault : goal.returns-in_err-follow-clause-fault
returns-in_err-follow-clause-fault g c =
    let from = c.from_residual-in_err-follow.ensures in
    let same : c.from_residual-in_err-follow.result ≡ Err c.in_err-follow.field-0.0 = search (from, rules) in
    fault_is (WhyNotPushed g.D.Domain.opened c.args.self.now c.args.node) _ _
    (follow_refused g.D.Domain.opened c.args.self.now c.args.node c.loop.new c.in_ok-first.first c.in_err-follow.field-0.0
    c.loop.invariant c.in_ok-first.ensures.led c.in_err-follow.ensures.fault) same

pub returns-in_err-swap-clause-fault : goal.returns-in_err-swap-clause-fault
returns-in_err-swap-clause-fault g c =
    let from = c.from_residual-in_err-swap.ensures in
    let same : c.from_residual-in_err-swap.result ≡ Err c.in_err-swap.field-0.0 = search (from, rules) in
    fault_is (WhyNotPushed g.D.Domain.opened c.args.self.now c.args.node) _ _
    (inr (refused_here g.D.Domain.opened (λ d w. ⊥) c.args.self.now c.in_err-swap.field-0.0 c.in_err-swap.ensures.fault)) same

pub returns-then-branch-clause-pushed : goal.returns-then-branch-clause-pushed
returns-then-branch-clause-pushed g c =
    goes_first g.D.Domain.opened c.args.self.now c.args.node c.loop.new c.in_ok-first.first c.in_ok-swap.field-0
    c.loop.invariant c.in_ok-follow.ensures.follows c.in_ok-swap.ensures.swapped c.if-branch.true

pub loop-preserved-else-branch : goal.loop-preserved-else-branch
loop-preserved-else-branch g c = c.in_ok-swap.ensures.stays c.if-branch.false ∙ c.loop.invariant

pub loop-preserved : goal.loop-preserved
loop-preserved g c = c.in_ok-swap.ensures.stays c.if-branch.false ∙ c.loop.invariant
