use Rattle.std.proofs.Common.{◌≡◌, IfErr, Some, Ok, Err, Result, sym, refl, subst, rules, of_calls}
use Rattle.pointers.proofs.Prelude.{CalledAt, Fault, WhyEnded}
use Rattle.pointers.proofs.Walks.{Reached, reached_ends, reached_fails, reached_none, reached_on}
use Rattle.pointers.proofs.Walks.{reached_past, reached_refused, reached_unled}
use Rattle.pointers.proofs.list.List.each.Goals.{in-Some-3+in_ok-f, in_default-2}
use Rattle.pointers.proofs.list.List.each.Goals as goal

pub loop-init : goal.loop-init
loop-init g c = (
  λ always. always,
  reached_none g.D.Domain.opened g.E.Element.copied g.E.Element.refused g.F.FnMut
      c.args.self.now
      tt c.args.f,
)

pub returns-in_err-node-clause-fault : goal.returns-in_err-node-clause-fault
returns-in_err-node-clause-fault g c =
    let broken = reached_unled g.D.Domain.opened g.E.Element.copied g.E.Element.refused g.F.FnMut
    c.args.self.now
    tt
    c.args.f c.loop.f c.loop.before c.in_err-node.field-0.0 c.loop.invariant.1 c.in_err-node.ensures.refused in
    search (broken, rules)

pub returns-in_default-clause-told : goal.returns-in_default-clause-told
returns-in_default-clause-told g c =
    reached_ends g.D.Domain.opened g.E.Element.copied g.E.Element.refused g.F.FnMut
    c.args.self.now
    tt
    c.args.f c.loop.f c.loop.before c.in_ok-node.field-0 c.loop.invariant.1 c.in_ok-node.ensures.led c.in_default.is

pub returns-in_err-element-clause-fault : goal.returns-in_err-element-clause-fault
returns-in_err-element-clause-fault g c =
    let broken = reached_refused g.D.Domain.opened g.E.Element.copied g.E.Element.refused g.F.FnMut
    c.args.self.now
    tt
    c.args.f c.loop.f c.loop.before c.in_ok-node.field-0 c.in-Some-2.node c.in_err-element.field-0.0 c.loop.invariant.1
    c.in_ok-node.ensures.led c.in-Some-2.is c.in_err-element.ensures.refused in
    search (broken, rules)

pub returns-in_err-f-clause-fault : goal.returns-in_err-f-clause-fault
returns-in_err-f-clause-fault g c =
    let called : CalledAt g.F.FnMut c.loop.f c.in-Some-3.element (Err c.in_err-f.field-0.0) c.f.new.self =
    record { shown = _; shows = refl; called = c.in_err-f.ensures } in
    let broken : WhyEnded g.D.Domain.opened g.E.Element.copied g.E.Element.refused g.F.FnMut
    c.args.self.now
    tt c.args.f
    c.in_err-f.field-0.0 = reached_fails g.D.Domain.opened g.E.Element.copied g.E.Element.refused g.F.FnMut
    c.args.self.now
    tt
    c.args.f c.loop.f c.f.new.self c.loop.before c.in_ok-node.field-0 c.in-Some-2.node c.in_ok-element.field-0
    c.in-Some-3.element c.in_err-f.field-0.0 c.loop.invariant.1
    c.in_ok-node.ensures.led c.in-Some-2.is c.in_ok-element.ensures.copied c.in-Some-3.is called in
    let from = c.from_residual-in_err-f.ensures in
    let same : c.from_residual-in_err-f.result ≡ Err c.in_err-f.field-0.0 = search (from, rules) in
    subst (λ (r : Result (Unit {0}) Fault). IfErr r (WhyEnded g.D.Domain.opened g.E.Element.copied g.E.Element.refused
    g.F.FnMut
    c.args.self.now
    tt c.args.f)) (sym same) broken

pub loop-preserved : goal.loop-preserved
loop-preserved g c =
    let o = g.D.Domain.opened in let e = g.E.Element in (
      search (of_calls, rules),
      elim c.match-branch-4.branch [
        | in-Some-3+in_ok-f w ↦
            let called : CalledAt g.F.FnMut c.loop.f w.in-Some-3.element (Ok tt) w.f.new.self =
            record { shown = _; shows = refl; called = w.in_ok-f.ensures } in
            subst (λ (m : g.row.F.Denot). Reached o e.copied e.refused g.F.FnMut
            c.args.self.now
            tt c.args.f
            (Some c.in-Some-2.node) m) (sym w.f-is)
            (reached_on o e.copied e.refused g.F.FnMut
            c.args.self.now
            tt c.args.f c.loop.f w.f.new.self c.loop.before
            c.in_ok-node.field-0 c.in-Some-2.node c.in_ok-element.field-0 w.in-Some-3.element c.loop.invariant.1
            c.in_ok-node.ensures.led c.in-Some-2.is c.in_ok-element.ensures.copied w.in-Some-3.is called)
        | in_default-2 w ↦
            subst (λ (m : g.row.F.Denot). Reached o e.copied e.refused g.F.FnMut
            c.args.self.now
            tt c.args.f
            (Some c.in-Some-2.node) m) (sym w.f-is)
            (reached_past o e.copied e.refused g.F.FnMut
            c.args.self.now
            tt c.args.f c.loop.f c.loop.before
            c.in_ok-node.field-0 c.in-Some-2.node c.in_ok-element.field-0 c.loop.invariant.1
            c.in_ok-node.ensures.led c.in-Some-2.is c.in_ok-element.ensures.copied w.in_default-2.is)
      ],
    )
