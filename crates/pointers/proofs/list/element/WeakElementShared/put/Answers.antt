use Rattle.std.proofs.Common.{IfErr, subst}
use Rattle.control_word.specs.declared.model.handle.Kind.TheVariants.{Weak}
use Rattle.pointers.specs.SiteCalls.{WhyNotDone}
use Rattle.pointers.specs.Sites.{Site}
use Rattle.pointers.specs.declared.fault.call.Call.TheVariants.{Store}
use Rattle.pointers.proofs.Places.{weak_refused}
use Rattle.pointers.proofs.Handles.{errs_map}
use Rattle.pointers.proofs.list.element.WeakElementShared.put.Goals as goal

pub returns-clause-refused : goal.returns-clause-refused
returns-clause-refused g c =
    errs_map _ _ c.store.result (weak_refused g.D.Domain.opened c.args.node.now Store)
    (subst (λ (s : Site g.row.D-Value.Denot). IfErr c.store.result (WhyNotDone g.D.Domain.opened Weak s Store)) c.up.ensures c.store.ensures.refused)
