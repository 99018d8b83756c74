use Rattle.std.proofs.Common.{refl, rules, ◌≡◌, Err, inr, subst}
use Rattle.pointers.specs.ListRemovals.{WhyNotRetained}
use Rattle.pointers.specs.Lists.{Leads, behind}
use Rattle.pointers.proofs.ListSteps.{fault_is, refused_at}
use Rattle.pointers.proofs.Sifts.{sifted_ends, sifted_fails, sifted_gone, sifted_kept, sifted_missing}
use Rattle.pointers.proofs.Sifts.{sifted_none, sifted_place}
use Rattle.pointers.proofs.list.List.retain.Goals as goal

pub loop-init : goal.loop-init
loop-init g c = (λ always. always, sifted_none g.D.Domain.opened g.E.Element.copied g.E.Element.refused g.F.FnMut c.args.self.now c.args.keep)

pub returns-in_err-node-clause-fault : goal.returns-in_err-node-clause-fault
returns-in_err-node-clause-fault g c =
    let from = c.from_residual.ensures in
    let same : c.from_residual.result ≡ Err c.in_err-node.field-0.0 = search (from, rules) in
    fault_is (WhyNotRetained g.D.Domain.opened g.E.Element.copied g.E.Element.refused g.F.FnMut c.args.self.now c.args.keep) _ _
    (inr (refused_at g.D.Domain.opened g.E.Element.refused c.args.self.now (behind c.loop.before c.args.self.now) c.in_err-node.field-0.0
    (sifted_place g.D.Domain.opened g.E.Element.copied g.E.Element.refused g.F.FnMut c.args.self.now c.args.keep c.loop.before
    c.loop.keep c.loop.out c.loop.invariant.1)
    (_, c.in_err-node.ensures.refused))) same

pub returns-in_err-unlink-clause-fault : goal.returns-in_err-unlink-clause-fault
returns-in_err-unlink-clause-fault g c =
    let from = c.from_residual-in_err-unlink.ensures in
    let same : c.from_residual-in_err-unlink.result ≡ Err c.in_err-unlink.field-0.0 = search (from, rules) in
    fault_is (WhyNotRetained g.D.Domain.opened g.E.Element.copied g.E.Element.refused g.F.FnMut c.args.self.now c.args.keep) _ _
    (inr c.in_err-unlink.ensures.refused) same

pub returns-in_default-clause-retained : goal.returns-in_default-clause-retained
returns-in_default-clause-retained g c =
    sifted_ends g.D.Domain.opened g.E.Element.copied g.E.Element.refused g.F.FnMut c.args.self.now c.args.keep c.loop.before c.in_ok-node.field-0
    c.loop.keep c.loop.out c.loop.invariant.1 c.in_ok-node.ensures.led c.in_default.is

pub unlink-requires : goal.unlink-requires
unlink-requires g c = λ k. (
  (refl, (refl, tt)),
  (
    sifted_place g.D.Domain.opened g.E.Element.copied g.E.Element.refused g.F.FnMut c.args.self.now c.args.keep
        c.loop.before c.loop.keep c.loop.out c.loop.invariant.1,
    subst (Leads g.D.Domain.opened (behind c.loop.before c.args.self.now)) c.in-Some-2.is c.in_ok-node.ensures.led,
  ),
)

pub returns-in_err-stays-clause-fault : goal.returns-in_err-stays-clause-fault
returns-in_err-stays-clause-fault g c =
    let from = c.from_residual-in_err-stays.ensures in
    let same : c.from_residual-in_err-stays.result ≡ Err c.in_err-stays.field-0.0 = search (from, rules) in
    fault_is (WhyNotRetained g.D.Domain.opened g.E.Element.copied g.E.Element.refused g.F.FnMut c.args.self.now c.args.keep) _ _
    (sifted_fails g.D.Domain.opened g.E.Element.copied g.E.Element.refused g.F.FnMut c.args.self.now c.args.keep
    c.loop.before c.in_ok-node.field-0 c.loop.keep c.stays.new.keep c.loop.out c.in-Some-2.node c.in_err-stays.field-0.0
    c.loop.invariant.1 c.in_ok-node.ensures.led c.in-Some-2.is c.in_err-stays.ensures.refused) same

pub loop-preserved-then-branch : goal.loop-preserved-then-branch
loop-preserved-then-branch g c = (
  λ always. c.in_ok-stays.ensures.callable,
  sifted_kept g.D.Domain.opened g.E.Element.copied g.E.Element.refused g.F.FnMut c.args.self.now c.args.keep
      c.loop.before c.in_ok-node.field-0 c.loop.keep c.stays.new.keep c.loop.out c.in-Some-2.node c.in_ok-stays.field-0
      c.loop.invariant.1 c.in_ok-node.ensures.led c.in-Some-2.is c.in_ok-stays.ensures.judged c.if-branch.true,
)

pub loop-preserved-then-branch-2 : goal.loop-preserved-then-branch-2
loop-preserved-then-branch-2 g c = (
  λ always. c.in_ok-stays.ensures.callable,
  sifted_gone g.D.Domain.opened g.E.Element.copied g.E.Element.refused g.F.FnMut c.args.self.now c.args.keep
      c.loop.before c.in_ok-node.field-0 c.loop.keep c.stays.new.keep c.loop.out c.saturating_add-out.result c.in-Some-2.node
      c.in_ok-stays.field-0 c.in_ok-unlink.field-0 c.loop.invariant.1 c.in_ok-node.ensures.led c.in-Some-2.is
      c.in_ok-stays.ensures.judged c.if-branch.false c.in_ok-unlink.ensures.out c.if-branch-2.true c.saturating_add-out.ensures,
)

pub loop-preserved : goal.loop-preserved
loop-preserved g c = (
  λ always. c.in_ok-stays.ensures.callable,
  sifted_missing g.D.Domain.opened g.E.Element.copied g.E.Element.refused g.F.FnMut c.args.self.now c.args.keep
      c.loop.before c.in_ok-node.field-0 c.loop.keep c.stays.new.keep c.loop.out c.in-Some-2.node
      c.in_ok-stays.field-0 c.in_ok-unlink.field-0 c.loop.invariant.1 c.in_ok-node.ensures.led c.in-Some-2.is
      c.in_ok-stays.ensures.judged c.if-branch.false c.in_ok-unlink.ensures.out c.if-branch-2.false,
)
