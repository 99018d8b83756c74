use Rattle.std.proofs.Common.{rules, ◌≡◌, ◌∙◌, Err, inr, sym}
use Rattle.std.proofs.lemmas.Bool.{false≢true}
use Rattle.pointers.proofs.Handles.{errs_map}
use Rattle.pointers.proofs.ListSteps.{fault_is}
use Rattle.pointer_structures.specs.Trees.{IsChildRefused}
use Rattle.pointer_structures.proofs.Steps.{passed_ends, passed_none, passed_on, passed_out, passed_refused, unlink_refused}
use Rattle.pointer_structures.proofs.tree.goes_out.Goals as goal

pub loop-init : goal.loop-init
loop-init g c = passed_none g.D.Domain.opened c.args.parent.now c.args.node.now

pub returns-in_err-child-clause-fault : goal.returns-in_err-child-clause-fault
returns-in_err-child-clause-fault g c =
    let from = c.from_residual.ensures in
    let same : c.from_residual.result ≡ Err c.in_err-child.field-0.0 = search (from, rules) in
    fault_is (IsChildRefused g.D.Domain.opened c.args.parent.now c.args.node.now) _ _
    (passed_refused g.D.Domain.opened c.args.parent.now c.args.node.now c.loop.before c.in_err-child.field-0.0 c.loop.invariant
    c.in_err-child.ensures.fault) same

pub returns-in_default-clause-out : goal.returns-in_default-clause-out
returns-in_default-clause-out g c = λ did.
    inr (passed_ends g.D.Domain.opened c.args.parent.now c.args.node.now c.loop.before c.in_ok-child.field-0 c.loop.invariant
    c.in_ok-child.ensures.led c.in_default.is)

pub returns-then-is-clause-out : goal.returns-then-is-clause-out
returns-then-is-clause-out g c =
    passed_out g.D.Domain.opened c.args.parent.now c.args.node.now c.in-Some-2.child c.loop.before c.unlink.result c.loop.invariant
    (c.is.ensures.0 c.if-is.true) c.unlink.ensures.out

pub returns-then-is-clause-fault : goal.returns-then-is-clause-fault
returns-then-is-clause-fault g c =
    errs_map _ _ c.unlink.result (λ why not. unlink_refused g.D.Domain.opened c.args.parent.now c.args.node.now c.loop.before why
    c.loop.invariant not) c.unlink.ensures.fault

pub loop-preserved : goal.loop-preserved
loop-preserved g c =
    passed_on g.D.Domain.opened c.args.parent.now c.args.node.now c.loop.before c.in_ok-child.field-0 c.in-Some-2.child
    c.loop.invariant c.in_ok-child.ensures.led c.in-Some-2.is (λ same.
    absurd (false≢true (sym c.if-is.false ∙ c.is.ensures.1 same)))
