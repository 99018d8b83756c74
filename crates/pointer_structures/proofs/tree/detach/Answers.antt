use Rattle.std.proofs.Common.{rules, ◌≡◌, Err, inl, inr, subst}
use Rattle.pointers.proofs.Handles.{errs_map}
use Rattle.pointers.proofs.ListSteps.{fault_is}
use Rattle.pointer_structures.specs.Trees.{HasParent, WhyNotDetached}
use Rattle.pointer_structures.proofs.Steps.{leaves, up_refused}
use Rattle.pointer_structures.proofs.tree.detach.Goals as goal

pub returns-in_err-parent-clause-fault : goal.returns-in_err-parent-clause-fault
returns-in_err-parent-clause-fault g c =
    let from = c.from_residual.ensures in
    let same : c.from_residual.result ≡ Err c.in_err-parent.field-0.0 = search (from, rules) in
    fault_is (WhyNotDetached g.D.Domain.opened c.args.node.now) _ _ (inl c.in_err-parent.ensures.refused) same

pub returns-in_default-clause-detached : goal.returns-in_default-clause-detached
returns-in_default-clause-detached g c =
    inr (subst (HasParent g.D.Domain.opened c.args.node.now) c.in_default.is c.in_ok-parent.ensures.parent)

pub returns-in_err-goes_out-clause-fault : goal.returns-in_err-goes_out-clause-fault
returns-in_err-goes_out-clause-fault g c =
    let from = c.from_residual-in_err-goes_out.ensures in
    let same : c.from_residual-in_err-goes_out.result ≡ Err c.in_err-goes_out.field-0.0 = search (from, rules) in
    let has = subst (HasParent g.D.Domain.opened c.args.node.now) c.in-Some.is c.in_ok-parent.ensures.parent in
    fault_is (WhyNotDetached g.D.Domain.opened c.args.node.now) _ _
    (inr (inr (c.in-Some.parent, has, c.in_err-goes_out.ensures.fault))) same

pub returns-in_err-put_next-clause-fault : goal.returns-in_err-put_next-clause-fault
returns-in_err-put_next-clause-fault g c =
    let from = c.from_residual-in_err-put_next.ensures in
    let same : c.from_residual-in_err-put_next.result ≡ Err c.in_err-put_next.field-0.0 = search (from, rules) in
    let has = subst (HasParent g.D.Domain.opened c.args.node.now) c.in-Some.is c.in_ok-parent.ensures.parent in
    fault_is (WhyNotDetached g.D.Domain.opened c.args.node.now) _ _
    (inr (inr (c.in-Some.parent, has, inl c.in_err-put_next.ensures.fault))) same

pub returns-then-branch-clause-detached : goal.returns-then-branch-clause-detached
returns-then-branch-clause-detached g c =
    leaves g.D.Domain.opened c.args.node.now c.in-Some.parent c.in_ok-parent.field-0 _ c.clear.result c.in_ok-parent.ensures.parent
    c.in-Some.is (c.in_ok-goes_out.ensures.out c.if-branch.true) c.in_ok-put_next.ensures.comes c.up.ensures c.clear.ensures.cleared

pub returns-then-branch-clause-fault : goal.returns-then-branch-clause-fault
returns-then-branch-clause-fault g c =
    errs_map _ _ c.clear.result (λ why not. inr (inl (up_refused g.D.Domain.opened c.args.node.now _ _ why c.up.ensures not)))
    c.clear.ensures.refused
