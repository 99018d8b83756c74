use Rattle.std.proofs.Common.{of_calls, rules, refl, sym, subst, ◌≡◌, Some, Ok, Err, IfErr, Result, Option, Bool, true, false}
use Rattle.std.specs.Fn.{CalledAt}
use Rattle.pointers.specs.declared.fault.Fault.{Fault}
use Rattle.pointers.specs.Lists.{WhyEnded}
use Rattle.pointers.proofs.Walks.{Reached, reached_fails, reached_on, reached_past, reached_refused, reached_stops}
use Rattle.pointers.proofs.list.List.find.Goals.{in-Some-3+in_ok-f+else-branch, in_default-2}
use Rattle.pointers.proofs.list.List.find.Goals as goal

pub returns-in_err-element-clause-fault : goal.returns-in_err-element-clause-fault
returns-in_err-element-clause-fault g c =
    let broken = reached_refused g.D.Domain.opened g.E.Element.copied g.E.Element.refused g.F.FnMut c.args.self.now false
    c.args.f c.loop.f c.loop.before c.in_ok-node.field-0 c.in-Some-2.node c.in_err-element.field-0.0 c.loop.invariant.1
    c.in_ok-node.ensures.led c.in-Some-2.is c.in_err-element.ensures.refused in
    search (broken, rules)

pub returns-in_err-f-clause-fault : goal.returns-in_err-f-clause-fault
returns-in_err-f-clause-fault g c =
    let called : CalledAt g.F.FnMut c.loop.f c.in-Some-3.element (Err c.in_err-f.field-0.0) c.f.new.self =
    record { shown = _; shows = refl; called = c.in_err-f.ensures } in
    let broken : WhyEnded g.D.Domain.opened g.E.Element.copied g.E.Element.refused g.F.FnMut c.args.self.now false c.args.f
    c.in_err-f.field-0.0 = reached_fails g.D.Domain.opened g.E.Element.copied g.E.Element.refused g.F.FnMut c.args.self.now false
    c.args.f c.loop.f c.f.new.self c.loop.before c.in_ok-node.field-0 c.in-Some-2.node c.in_ok-element.field-0
    c.in-Some-3.element c.in_err-f.field-0.0 c.loop.invariant.1
    c.in_ok-node.ensures.led c.in-Some-2.is c.in_ok-element.ensures.copied c.in-Some-3.is called in
    let from = c.from_residual-in_err-f.ensures in
    let same : c.from_residual-in_err-f.result ≡ Err c.in_err-f.field-0.0 = search (from, rules) in
    subst (λ (r : Result (Option g.row.E.Denot) Fault). IfErr r (WhyEnded g.D.Domain.opened g.E.Element.copied g.E.Element.refused
    g.F.FnMut c.args.self.now false c.args.f)) (sym same) broken

pub returns-then-branch-clause-found : goal.returns-then-branch-clause-found
returns-then-branch-clause-found g c =
    let called : CalledAt g.F.FnMut c.loop.f c.in-Some-3.element (Ok c.in_ok-f.field-0) c.f.new.self =
    record { shown = _; shows = refl; called = c.in_ok-f.ensures } in
    reached_stops g.D.Domain.opened g.E.Element.copied g.E.Element.refused g.F.FnMut c.args.self.now false
    c.args.f c.loop.f c.f.new.self c.loop.before c.in_ok-node.field-0 c.in-Some-2.node c.in_ok-element.field-0
    c.in-Some-3.element (Ok true) c.loop.invariant.1
    c.in_ok-node.ensures.led c.in-Some-2.is c.in_ok-element.ensures.copied c.in-Some-3.is
    (subst (λ (b : Bool). CalledAt g.F.FnMut c.loop.f c.in-Some-3.element (Ok b) c.f.new.self) c.if-branch.true called)

pub loop-preserved : goal.loop-preserved
loop-preserved g c =
    let o = g.D.Domain.opened in let e = g.E.Element in (
      search (of_calls, rules),
      elim c.match-branch-4.branch [
        | in-Some-3+in_ok-f+else-branch w ↦
            let told : CalledAt g.F.FnMut c.loop.f w.in-Some-3.element (Ok w.in_ok-f.field-0) w.f.new.self =
            record { shown = _; shows = refl; called = w.in_ok-f.ensures } in
            let called : CalledAt g.F.FnMut c.loop.f w.in-Some-3.element (Ok false) w.f.new.self =
            subst (λ (b : Bool). CalledAt g.F.FnMut c.loop.f w.in-Some-3.element (Ok b) w.f.new.self) w.if-branch.false told in
            subst (λ (m : g.row.F.Denot). Reached o e.copied e.refused g.F.FnMut c.args.self.now false c.args.f
            (Some c.in-Some-2.node) m) (sym w.f-is)
            (reached_on o e.copied e.refused g.F.FnMut c.args.self.now false c.args.f c.loop.f w.f.new.self c.loop.before
            c.in_ok-node.field-0 c.in-Some-2.node c.in_ok-element.field-0 w.in-Some-3.element c.loop.invariant.1
            c.in_ok-node.ensures.led c.in-Some-2.is c.in_ok-element.ensures.copied w.in-Some-3.is called)
        | in_default-2 w ↦
            subst (λ (m : g.row.F.Denot). Reached o e.copied e.refused g.F.FnMut c.args.self.now false c.args.f
            (Some c.in-Some-2.node) m) (sym w.f-is)
            (reached_past o e.copied e.refused g.F.FnMut c.args.self.now false c.args.f c.loop.f c.loop.before
            c.in_ok-node.field-0 c.in-Some-2.node c.in_ok-element.field-0 c.loop.invariant.1
            c.in_ok-node.ensures.led c.in-Some-2.is c.in_ok-element.ensures.copied w.in_default-2.is)
      ],
    )
