use Rattle.std.proofs.Common.{rules, subst, ◌≡◌, Err}
use Rattle.pointers.specs.ListChanges.{IsListRefused}
use Rattle.pointers.specs.Lists.{next_of}
use Rattle.pointers.proofs.ListRemovals.{Seeks, goes_out_by_store, is_not_that, seeks_ends, seeks_from, seeks_on}
use Rattle.pointers.proofs.ListRemovals.{seeks_place}
use Rattle.pointers.proofs.ListSteps.{fault_is, refused_at}
use Rattle.pointers.proofs.list.List.unlink_behind.Goals as goal

pub loop-init : goal.loop-init
loop-init g c = (seeks_from g.D.Domain.opened c.args.node c.args.from, c.requires.next)

pub returns-in_err-next-clause-refused : goal.returns-in_err-next-clause-refused
returns-in_err-next-clause-refused g c =
    let from = c.from_residual.ensures in
    let same : c.from_residual.result ≡ Err c.in_err-next.field-0.0 = search (from, rules) in
    fault_is (IsListRefused g.D.Domain.opened g.E.Element.refused c.args.self.now) _ _
    (refused_at g.D.Domain.opened g.E.Element.refused c.args.self.now (next_of c.in-Some-before.one) c.in_err-next.field-0.0
    (seeks_place g.D.Domain.opened c.args.self.now c.args.node c.args.from c.in-Some-before.one c.requires.told
    (subst (Seeks g.D.Domain.opened c.args.node c.args.from) c.in-Some-before.is c.loop.invariant.0)) c.in_err-next.ensures.refused) same

pub returns-in_err-put_behind-clause-refused : goal.returns-in_err-put_behind-clause-refused
returns-in_err-put_behind-clause-refused g c =
    let from = c.from_residual-in_err-put_behind.ensures in
    let same : c.from_residual-in_err-put_behind.result ≡ Err c.in_err-put_behind.field-0.0 = search (from, rules) in
    fault_is (IsListRefused g.D.Domain.opened g.E.Element.refused c.args.self.now) _ _
    (refused_at g.D.Domain.opened g.E.Element.refused c.args.self.now (next_of c.in-Some-before.one) c.in_err-put_behind.field-0.0
    (seeks_place g.D.Domain.opened c.args.self.now c.args.node c.args.from c.in-Some-before.one c.requires.told
    (subst (Seeks g.D.Domain.opened c.args.node c.args.from) c.in-Some-before.is c.loop.invariant.0))
    c.in_err-put_behind.ensures.refused) same

pub returns-in_default-clause-out : goal.returns-in_default-clause-out
returns-in_default-clause-out g c =
    seeks_ends g.D.Domain.opened c.args.self.now c.args.node c.args.from c.requires.told
    (subst (Seeks g.D.Domain.opened c.args.node c.args.from) c.in_default.is c.loop.invariant.0)

pub returns-then-is_node-clause-out : goal.returns-then-is_node-clause-out
returns-then-is_node-clause-out g c =
    let o = g.D.Domain.opened in
    goes_out_by_store o c.args.self.now (next_of c.in-Some-before.one) c.args.node c.in_ok-next.next _
    (seeks_place o c.args.self.now c.args.node c.args.from c.in-Some-before.one c.requires.told
    (subst (Seeks o c.args.node c.args.from) c.in-Some-before.is c.loop.invariant.0))
    (c.is_node.ensures.0 c.if-is_node.true) c.in_ok-next.ensures.led c.loop.invariant.1
    c.in_ok-put_behind.ensures.comes

pub loop-preserved : goal.loop-preserved
loop-preserved g c =
    let o = g.D.Domain.opened in (
      seeks_on o c.args.node c.args.from c.in-Some-before.one c.in_ok-next.next
          (subst (Seeks o c.args.node c.args.from) c.in-Some-before.is c.loop.invariant.0) c.in_ok-next.ensures.led
          (is_not_that o _ c.in_ok-next.next c.args.node c.is_node.ensures c.if-is_node.false),
      c.loop.invariant.1,
    )
