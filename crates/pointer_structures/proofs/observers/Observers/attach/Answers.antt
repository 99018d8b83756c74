use Rattle.std.proofs.Common.{IfErr, OnOk, inr, subst}
use Rattle.pointers.proofs.Handles.{errs_map}
use Rattle.pointers.proofs.ListSteps.{on_ok}
use Rattle.pointers.specs.Sites.{Site}
use Rattle.pointer_structures.specs.Watches.{Watches, WhyNotAttached}
use Rattle.pointer_structures.proofs.observers.Observers.attach.Goals as goal

pub returns-clause-attached : goal.returns-clause-attached
returns-clause-attached g c =
    subst (λ (s : Site g.row.D-Value.Denot). OnOk c.push_front_with.result (Watches g.D.Domain.opened s c.args.subject.now c.args.value)) c.self.view_is
    (on_ok c.push_front_with.result _ _ (λ heads. record {
      weak = c.in_ok-downgrade.field-0;
      same = c.in_ok-downgrade.ensures.one;
      first = heads;
    }) c.push_front_with.ensures.pushed)

pub returns-clause-fault : goal.returns-clause-fault
returns-clause-fault g c =
    subst (λ (s : Site g.row.D-Value.Denot). IfErr c.push_front_with.result (WhyNotAttached g.D.Domain.opened s c.args.subject.now c.args.value))
    c.self.view_is (errs_map _ _ c.push_front_with.result (λ why not. inr not) c.push_front_with.ensures.fault)
