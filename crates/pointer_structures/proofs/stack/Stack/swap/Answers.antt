use Rattle.std.proofs.Common.{IfErr, IfOk, IsTrue, Bool, true, subst}
use Rattle.pointers.specs.ListChanges.{IsRefusedAt, Swaps}
use Rattle.pointers.specs.Sites.{Site}
use Rattle.pointers.proofs.Handles.{errs_map}
use Rattle.pointers.proofs.ListSteps.{stays_of, swaps_of}
use Rattle.pointer_structures.proofs.Steps.{kept_of}
use Rattle.pointer_structures.proofs.stack.Stack.swap.Goals as goal

pub returns-clause-swapped : goal.returns-clause-swapped
returns-clause-swapped g c =
    let o = g.D.Domain.opened in let call = c.compare_exchange_weak in let place = c.self.inside.place in
    subst (λ (s : Site g.row.D-Value.Denot). IfOk call.result (λ (done : Bool). IsTrue done → Swaps o s c.args.expected.now
    c.args.desired.now)) c.self.view_is
    (swaps_of o place true _ _ _ _ call.result call.ensures.compared)

pub returns-clause-kept : goal.returns-clause-kept
returns-clause-kept g c =
    let o = g.D.Domain.opened in let call = c.compare_exchange_weak in let place = c.self.inside.place in
    kept_of o place true _ _ _ _ call.result call.ensures.compared

pub returns-clause-stays : goal.returns-clause-stays
returns-clause-stays g c =
    let o = g.D.Domain.opened in let call = c.compare_exchange_weak in let place = c.self.inside.place in
    stays_of o place true _ _ _ _ call.result call.ensures.compared

pub returns-clause-fault : goal.returns-clause-fault
returns-clause-fault g c =
    let call = c.compare_exchange_weak in
    subst (λ (s : Site g.row.D-Value.Denot). IfErr call.result (IsRefusedAt g.D.Domain.opened s)) c.self.view_is
    (errs_map _ _ call.result (λ why not. (_, not)) call.ensures.refused)
