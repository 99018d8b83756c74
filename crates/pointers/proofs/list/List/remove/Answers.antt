use Rattle.std.proofs.Common.{refl, rules, ◌≡◌, Err, inl, subst}
use Rattle.pointers.specs.ListChanges.{IsListRefused}
use Rattle.pointers.specs.ListRemovals.{IsUnlinked}
use Rattle.pointers.specs.Lists.{Leads, behind}
use Rattle.pointers.proofs.ListRemovals.{searched_ends, searched_finds, searched_none, searched_on}
use Rattle.pointers.proofs.ListRemovals.{searched_place}
use Rattle.pointers.proofs.ListSteps.{fault_is, refused_at, refused_node}
use Rattle.pointers.proofs.list.List.remove.Goals as goal

pub loop-init : goal.loop-init
loop-init g c = searched_none g.D.Domain.opened g.E.Element.copied g.E.Element.is_same c.args.self.now c.args.element.now

pub returns-in_err-node-clause-fault : goal.returns-in_err-node-clause-fault
returns-in_err-node-clause-fault g c =
    let from = c.from_residual.ensures in
    let same : c.from_residual.result ≡ Err c.in_err-node.field-0.0 = search (from, rules) in
    fault_is (IsListRefused g.D.Domain.opened g.E.Element.refused c.args.self.now) _ _
    (refused_at g.D.Domain.opened g.E.Element.refused c.args.self.now (behind c.loop.before c.args.self.now) c.in_err-node.field-0.0
    (searched_place g.D.Domain.opened g.E.Element.copied g.E.Element.is_same c.args.self.now c.args.element.now c.loop.before c.loop.invariant)
    (_, c.in_err-node.ensures.refused)) same

pub returns-in_err-has-clause-fault : goal.returns-in_err-has-clause-fault
returns-in_err-has-clause-fault g c =
    let from = c.from_residual-in_err-has.ensures in
    let same : c.from_residual-in_err-has.result ≡ Err c.in_err-has.field-0.0 = search (from, rules) in
    fault_is (IsListRefused g.D.Domain.opened g.E.Element.refused c.args.self.now) _ _
    (refused_node g.D.Domain.opened g.E.Element.refused c.args.self.now (behind c.loop.before c.args.self.now) c.in_ok-node.field-0 c.in-Some-2.node
    c.in_err-has.field-0.0
    (searched_place g.D.Domain.opened g.E.Element.copied g.E.Element.is_same c.args.self.now c.args.element.now c.loop.before c.loop.invariant)
    c.in_ok-node.ensures.led c.in-Some-2.is (inl c.in_err-has.ensures.refused)) same

pub returns-in_err-unlink-clause-fault : goal.returns-in_err-unlink-clause-fault
returns-in_err-unlink-clause-fault g c =
    let from = c.from_residual-in_err-unlink.ensures in
    let same : c.from_residual-in_err-unlink.result ≡ Err c.in_err-unlink.field-0.0 = search (from, rules) in
    fault_is (IsListRefused g.D.Domain.opened g.E.Element.refused c.args.self.now) _ _
    (c.in_err-unlink.ensures.refused) same

pub returns-in_default-clause-removed : goal.returns-in_default-clause-removed
returns-in_default-clause-removed g c =
    searched_ends g.D.Domain.opened g.E.Element.copied g.E.Element.is_same c.args.self.now c.args.element.now
    c.loop.before c.in_ok-node.field-0 c.loop.invariant c.in_ok-node.ensures.led c.in_default.is

pub unlink-requires : goal.unlink-requires
unlink-requires g c = λ k. (
  (refl, (refl, tt)),
  (
    searched_place g.D.Domain.opened g.E.Element.copied g.E.Element.is_same c.args.self.now c.args.element.now c.loop.before
        c.loop.invariant,
    subst (Leads g.D.Domain.opened (behind c.loop.before c.args.self.now)) c.in-Some-2.is c.in_ok-node.ensures.led,
  ),
)

pub loop-preserved-then-not-branch : goal.loop-preserved-then-not-branch
loop-preserved-then-not-branch g c =
    searched_on g.D.Domain.opened g.E.Element.copied g.E.Element.is_same c.args.self.now c.args.element.now
    c.loop.before c.in_ok-node.field-0 c.in-Some-2.node c.in_ok-has.field-0 c.loop.invariant c.in_ok-node.ensures.led
    c.in-Some-2.is c.in_ok-has.ensures.found c.if-not-branch.true

pub returns-then-branch-clause-removed : goal.returns-then-branch-clause-removed
returns-then-branch-clause-removed g c =
    searched_finds g.D.Domain.opened g.E.Element.copied g.E.Element.is_same c.args.self.now c.args.element.now
    c.loop.before c.in_ok-node.field-0 c.in-Some-2.node c.in_ok-has.field-0 c.loop.invariant c.in_ok-node.ensures.led
    c.in-Some-2.is c.in_ok-has.ensures.found c.if-not-branch.false
    (subst (IsUnlinked g.D.Domain.opened c.args.self.now c.in-Some-2.node) c.if-branch.true c.in_ok-unlink.ensures.out)
