use Rattle.std.proofs.Common.{rules, ◌≡◌, ◌∙◌, Err, inl, inr}
use Rattle.pointers.proofs.Handles.{errs_map}
use Rattle.pointers.proofs.ListSteps.{fault_is, on_ok, refused_here}
use Rattle.pointer_structures.specs.Trees.{WhyNotJoined}
use Rattle.pointer_structures.proofs.Steps.{child_first, child_refused, comes_up, up_refused}
use Rattle.pointer_structures.proofs.tree.add_child.Goals as goal

pub returns-in_err-top-clause-fault : goal.returns-in_err-top-clause-fault
returns-in_err-top-clause-fault g c =
    let from = c.from_residual.ensures in
    let is : c.from_residual.result ≡ Err c.in_err-top.field-0.0 = search (from, rules) in
    let same = c.at-children.ensures ∙ c.first.ensures in
    fault_is (WhyNotJoined g.D.Domain.opened c.args.parent.now c.args.child) _ _
    (inr (inr (inr (child_refused g.D.Domain.opened c.at-children.result c.args.parent.now c.args.child c.in_err-top.field-0.0 same
    (inr (refused_here g.D.Domain.opened (λ d w. ⊥) c.at-children.result c.in_err-top.field-0.0 c.in_err-top.ensures.fault)))))) is

pub returns-in_err-detach-clause-fault : goal.returns-in_err-detach-clause-fault
returns-in_err-detach-clause-fault g c =
    let from = c.from_residual-in_err-detach.ensures in
    let same : c.from_residual-in_err-detach.result ≡ Err c.in_err-detach.field-0.0 = search (from, rules) in
    fault_is (WhyNotJoined g.D.Domain.opened c.args.parent.now c.args.child) _ _ (inl c.in_err-detach.ensures.fault) same

pub returns-in_err-downgrade-clause-fault : goal.returns-in_err-downgrade-clause-fault
returns-in_err-downgrade-clause-fault g c =
    let from = c.from_residual-in_err-downgrade.ensures in
    let same : c.from_residual-in_err-downgrade.result ≡ Err c.in_err-downgrade.field-0.0 = search (from, rules) in
    fault_is (WhyNotJoined g.D.Domain.opened c.args.parent.now c.args.child) _ _ (inr (inl c.in_err-downgrade.ensures.fault)) same

pub returns-in_err-store-clause-fault : goal.returns-in_err-store-clause-fault
returns-in_err-store-clause-fault g c =
    let from = c.from_residual-in_err-store.ensures in
    let same : c.from_residual-in_err-store.result ≡ Err c.in_err-store.field-0.0 = search (from, rules) in
    fault_is (WhyNotJoined g.D.Domain.opened c.args.parent.now c.args.child) _ _
    (inr (inr (inl (up_refused g.D.Domain.opened c.args.child _ _ c.in_err-store.field-0.0 c.up.ensures c.in_err-store.ensures.refused))))
    same

pub returns-clause-joined : goal.returns-clause-joined
returns-clause-joined g c =
    let same = c.at-children.ensures ∙ c.first.ensures in
    on_ok c.push.result _ _ (λ pushed. record {
      detaches = c.in_ok-detach.ensures.detached;
      up = c.in_ok-downgrade.field-0;
      same = c.in_ok-downgrade.ensures.one;
      comes = comes_up g.D.Domain.opened c.args.child _ _ c.up.ensures c.in_ok-store.ensures.stored;
      first = child_first g.D.Domain.opened c.at-children.result c.args.parent.now c.args.child same pushed;
    }) c.push.ensures.pushed

pub returns-clause-fault : goal.returns-clause-fault
returns-clause-fault g c =
    let same = c.at-children.ensures ∙ c.first.ensures in
    errs_map _ _ c.push.result (λ why not. inr (inr (inr (child_refused g.D.Domain.opened c.at-children.result c.args.parent.now c.args.child why
    same not)))) c.push.ensures.fault
