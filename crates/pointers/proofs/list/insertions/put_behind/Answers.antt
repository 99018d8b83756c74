use Rattle.std.proofs.Common.{IfErr, subst}
use Rattle.pointers.specs.ListChanges.{IsRefusedAt}
use Rattle.pointers.specs.Sites.{Site}
use Rattle.pointers.proofs.Handles.{errs_map}
use Rattle.pointers.proofs.list.insertions.put_behind.Goals as goal

pub returns-clause-refused : goal.returns-clause-refused
returns-clause-refused g c =
    subst (λ (s : Site g.row.D-Value.Denot). IfErr c.store.result (IsRefusedAt g.D.Domain.opened s)) c.next.ensures
    (errs_map _ _ c.store.result (λ why not. (_, not)) c.store.ensures.refused)
