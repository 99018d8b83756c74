use Rattle.std.proofs.Common.{IfErr, IfOk, subst}
use Rattle.pointers.proofs.Handles.{errs_map}
use Rattle.pointers.specs.ListChanges.{IsRefusedAt}
use Rattle.pointers.specs.Lists.{Leads}
use Rattle.pointers.specs.Sites.{Site}
use Rattle.pointer_structures.proofs.stack.Stack.top.Goals as goal

pub returns-clause-led : goal.returns-clause-led
returns-clause-led g c =
    subst (λ (s : Site g.row.D-Value.Denot). IfOk c.load.result (Leads g.D.Domain.opened s)) c.self.view_is c.load.ensures.loaded

pub returns-clause-fault : goal.returns-clause-fault
returns-clause-fault g c =
    subst (λ (s : Site g.row.D-Value.Denot). IfErr c.load.result (IsRefusedAt g.D.Domain.opened s)) c.self.view_is
    (errs_map _ _ c.load.result (λ why not. (_, not)) c.load.ensures.refused)
