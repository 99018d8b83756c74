use Rattle.std.proofs.Common.{rules, ◌≡◌, Err, inl, inr}
use Rattle.pointers.specs.ListChanges.{WhyNoNode}
use Rattle.pointers.proofs.ListSteps.{fault_is}
use Rattle.pointers.proofs.list.List.node.Goals as goal

pub returns-in_err-put-clause-refused : goal.returns-in_err-put-clause-refused
returns-in_err-put-clause-refused g c =
    let from = c.from_residual-in_err-put.ensures in
    let same : c.from_residual-in_err-put.result ≡ Err c.in_err-put.field-0.0 = search (from, rules) in
    fault_is (WhyNoNode g.D.Domain.opened g.E.Element.refused c.args.value) _ _
    (inr (c.in_ok-node.node, c.in_ok-node.ensures.made, inl c.in_err-put.ensures.refused)) same
