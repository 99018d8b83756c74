use Rattle.std.proofs.Common.{rules, ◌≡◌, Err}
use Rattle.pointers.specs.ListChanges.{IsListRefused}
use Rattle.pointers.proofs.ListSteps.{fault_is, passed_ends, passed_on, refused_behind}
use Rattle.pointers.proofs.list.List.last.Goals as goal

pub returns-in_err-node-clause-refused : goal.returns-in_err-node-clause-refused
returns-in_err-node-clause-refused g c =
    let from = c.from_residual.ensures in
    let same : c.from_residual.result ≡ Err c.in_err-node.field-0.0 = search (from, rules) in
    fault_is (IsListRefused g.D.Domain.opened g.E.Element.refused c.args.self.now) _ _
    (refused_behind g.D.Domain.opened g.E.Element.refused c.args.self.now c.loop.last c.in_err-node.field-0.0
    c.loop.invariant c.in_err-node.ensures.refused) same

pub returns-in_default-clause-last : goal.returns-in_default-clause-last
returns-in_default-clause-last g c =
    passed_ends g.D.Domain.opened c.args.self.now c.loop.last c.in_ok-node.field-0 c.loop.invariant c.in_ok-node.ensures.led c.in_default.is

pub loop-preserved : goal.loop-preserved
loop-preserved g c =
    passed_on g.D.Domain.opened c.args.self.now c.loop.last c.in_ok-node.field-0 c.in-Some-2.node c.loop.invariant c.in_ok-node.ensures.led
    c.in-Some-2.is
