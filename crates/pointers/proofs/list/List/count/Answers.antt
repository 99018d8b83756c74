use Rattle.std.proofs.Common.{rules, sym, subst, ◌∙◌, ◌≡◌, ℕ, Err, IfErr, Result, Some}
use Rattle.pointers.specs.Lists.{IsBrokenOff}
use Rattle.pointers.specs.declared.fault.Fault.{Fault}
use Rattle.pointers.proofs.ListSteps.{Counted, counted_none_there, counted_refused, counted_some}
use Rattle.pointers.proofs.list.List.count.Goals.{else-is_some, then-is_some}
use Rattle.pointers.proofs.list.List.count.Goals as goal

pub returns-in_err-get-clause-fault : goal.returns-in_err-get-clause-fault
returns-in_err-get-clause-fault g c =
    let o = g.D.Domain.opened in let e = g.E.Element in
    let broken : IsBrokenOff o e.copied e.refused c.args.self.now c.in_err-get.field-0.0 =
    counted_refused o e.copied e.refused c.args.self.now c.loop.before c.in_ok-node.field-0 c.in-Some-2.node c.loop.count
    c.in_err-get.field-0.0 c.loop.invariant c.in_ok-node.ensures.led c.in-Some-2.is c.in_err-get.ensures.refused in
    let from = c.from_residual-in_err-get.ensures in
    let same : c.from_residual-in_err-get.result ≡ Err c.in_err-get.field-0.0 = search (from, rules) in
    subst (λ (r : Result ℕ Fault). IfErr r (IsBrokenOff o e.copied e.refused c.args.self.now)) (sym same) broken

pub loop-preserved : goal.loop-preserved
loop-preserved g c =
    let o = g.D.Domain.opened in
    elim c.if-is_some.branch [
      | then-is_some w ↦
          subst (Counted o g.E.Element.copied c.args.self.now (Some c.in-Some-2.node)) (sym w.count-is)
          (counted_some o g.E.Element.copied c.args.self.now c.loop.before c.in_ok-node.field-0 c.in-Some-2.node
          c.in_ok-get.field-0 c.loop.count w.saturating_add-count.result c.loop.invariant c.in_ok-node.ensures.led
          c.in-Some-2.is c.in_ok-get.ensures.copied (sym c.is_some.ensures ∙ w.if-is_some.true)
          w.saturating_add-count.ensures)
      | else-is_some w ↦
          subst (Counted o g.E.Element.copied c.args.self.now (Some c.in-Some-2.node)) (sym w.count-is)
          (counted_none_there o g.E.Element.copied c.args.self.now c.loop.before c.in_ok-node.field-0 c.in-Some-2.node
          c.in_ok-get.field-0 c.loop.count c.loop.invariant c.in_ok-node.ensures.led
          c.in-Some-2.is c.in_ok-get.ensures.copied (sym c.is_some.ensures ∙ w.if-is_some.false))
    ]
