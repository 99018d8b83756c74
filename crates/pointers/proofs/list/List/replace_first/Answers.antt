use Rattle.std.proofs.Common.{IfErr, IfOk, IsFalse, IsTrue, Bool, false, subst}
use Rattle.pointers.specs.ListChanges.{IsRefusedAt, Swaps, Tells}
use Rattle.pointers.specs.Sites.{Site}
use Rattle.pointers.proofs.Handles.{errs_map}
use Rattle.pointers.proofs.ListSteps.{stays_of, swaps_of, told_by}
use Rattle.pointers.proofs.list.List.replace_first.Goals as goal

pub returns-clause-swapped : goal.returns-clause-swapped
returns-clause-swapped g c =
    let o = g.D.Domain.opened in let call = c.compare_exchange_strong in
    subst (λ (s : Site g.row.D-Value.Denot). IfOk call.result (λ (done : Bool). IsTrue done → Swaps o s c.args.expected.now
    c.args.desired.now)) c.self.view_is
    (swaps_of o c.self.inside.head false _ _ _ _
    call.result call.ensures.compared)

pub returns-clause-stays : goal.returns-clause-stays
returns-clause-stays g c =
    let o = g.D.Domain.opened in let call = c.compare_exchange_strong in
    stays_of o c.self.inside.head false _ _ _ _
    call.result call.ensures.compared

pub returns-clause-found : goal.returns-clause-found
returns-clause-found g c =
    let o = g.D.Domain.opened in let call = c.compare_exchange_strong in
    subst (λ (s : Site g.row.D-Value.Denot). IfOk call.result (λ (done : Bool). IsFalse done → Tells o s
    c.compare_exchange_strong.new.expected)) c.self.view_is
    (told_by o c.self.inside.head false _ _ _ _
    call.result call.ensures.compared)

pub returns-clause-refused : goal.returns-clause-refused
returns-clause-refused g c =
    let call = c.compare_exchange_strong in
    subst (λ (s : Site g.row.D-Value.Denot). IfErr call.result (IsRefusedAt g.D.Domain.opened s)) c.self.view_is
    (errs_map _ _ call.result (λ why not. (_, not)) call.ensures.refused)
