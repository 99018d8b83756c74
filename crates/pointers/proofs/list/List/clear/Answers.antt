use Rattle.std.proofs.Common.{IfErr, OnOk, subst}
use Rattle.control_word.specs.declared.model.handle.Kind.TheVariants.{Owner}
use Rattle.pointers.specs.ListChanges.{Empties}
use Rattle.pointers.specs.SiteCalls.{WhyNotDone}
use Rattle.pointers.specs.Sites.{Site}
use Rattle.pointers.specs.declared.fault.call.Call.TheVariants.{Clear}
use Rattle.pointers.proofs.list.List.clear.Goals as goal

pub returns-clause-cleared : goal.returns-clause-cleared
returns-clause-cleared g c =
    subst (λ (s : Site g.row.D-Value.Denot). OnOk c.clear.result (Empties g.D.Domain.opened s)) c.self.view_is
    c.clear.ensures.cleared

pub returns-clause-fault : goal.returns-clause-fault
returns-clause-fault g c =
    subst (λ (s : Site g.row.D-Value.Denot). IfErr c.clear.result (WhyNotDone g.D.Domain.opened Owner s Clear))
    c.self.view_is c.clear.ensures.refused
