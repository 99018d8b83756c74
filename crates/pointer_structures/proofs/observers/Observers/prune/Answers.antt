use Rattle.std.proofs.Common.{rules, IfErr, IfOk, subst}
use Rattle.pointers.specs.Sites.{Site}
use Rattle.pointer_structures.specs.Prunes.{Prunes, WhyNotPruned}
use Rattle.pointer_structures.proofs.Pruning.{not_pruned, prunes}
use Rattle.pointer_structures.proofs.observers.Observers.prune.Goals as goal

pub returns-clause-pruned : goal.returns-clause-pruned
returns-clause-pruned g c =
    subst (λ (s : Site g.row.D-Value.Denot). IfOk c.retain.result (Prunes g.D.Domain.opened s)) c.self.view_is
    (prunes g.D.Domain.opened _ (λ f w alive h called. search rules) _ _ c.retain.result c.retain.ensures.retained)

pub returns-clause-fault : goal.returns-clause-fault
returns-clause-fault g c =
    subst (λ (s : Site g.row.D-Value.Denot). IfErr c.retain.result (WhyNotPruned g.D.Domain.opened s)) c.self.view_is
    (not_pruned g.D.Domain.opened _ (λ f w why h called. search rules) _ _ c.retain.result c.retain.ensures.fault)
