use Rattle.std.proofs.Common.{List, [], ◌∷◌, Option, sym, refl, subst}
use Rattle.pointers.proofs.Prelude.{IsWholeBeside, Known, Owner}
use Rattle.control_block.specs.declared.handles.Held.TheVariants as held
use Rattle.pointers.proofs.CellCalls.{exchanged, open_shared, shared_alike, stays}
use Rattle.pointers.proofs.Handles.{passed_on, was_at}
use Rattle.pointers.proofs.InHand.{bears_on, in_hand, swaps}
use Rattle.pointers.proofs.Later.{by_event}
use Rattle.std.proofs.Common.{ap}
use Rattle.pointers.proofs.HandCalls.{exchanges_exactly}
use Rattle.pointers.specs.Whole.{ContextNow}
use Rattle.pointers.proofs.context.Context.exchange.Goals as goal

pub exchange-found-requires-clause-cell : goal.exchange-found-requires-clause-cell
exchange-found-requires-clause-cell g c =
    let o = g.D.Domain.opened in let d = c.given.new.desk in let p = c.self.inside.pile in let cs = c.given.new.claims.entries in
    let h = held.Owner c.in_ok-handle.handle in let w = c.in_ok-handle.ensures.hand in
    open_shared o d p (h ∷ []) cs c.args.at.site _ w c.requires.cell c.look_at-2.ensures.has

pub exchange-found-requires-clause-holds : goal.exchange-found-requires-clause-holds
exchange-found-requires-clause-holds g c =
    let o = g.D.Domain.opened in let d = c.given.new.desk in let p = c.self.inside.pile in let cs = c.given.new.claims.entries in
    let h = held.Owner c.in_ok-handle.handle in let w = c.in_ok-handle.ensures.hand in
    in_hand o d p h [] cs w

pub arrived-requires-clause-hand : goal.arrived-requires-clause-hand
arrived-requires-clause-hand g c =
    let o = g.D.Domain.opened in let d = c.given.new.desk in let e = c.exchange-found.new.desk in let p = c.self.inside.pile in
    let cs = c.given.new.claims.entries in let h = held.Owner c.in_ok-handle.handle in let f = held.Owner c.exchange-found.result in
    let w = c.in_ok-handle.ensures.hand in let says = c.exchange-found.ensures in
    subst (λ (l : List (Option (Known g.row.D-Value.Denot))). IsWholeBeside o e p (f ∷ []) l) (sym c.look_at-2.ensures.claims)
    (swaps o d e p p h f [] cs w c.assert_invariant.ensures (by_event d _ e says.event) (bears_on o d e p (h ∷ []) cs w says.keeps) says.bag says.held)

pub returns-clause-exchanged : goal.returns-clause-exchanged
returns-clause-exchanged g c =
    let o = g.D.Domain.opened in let d = c.given.new.desk in let e = c.exchange-found.new.desk in let p = c.self.inside.pile in
    let cs = c.given.new.claims.entries in let h = held.Owner c.in_ok-handle.handle in let f = held.Owner c.exchange-found.result in
    let w = c.in_ok-handle.ensures.hand in let says = c.exchange-found.ensures in
    exchanged o d e _ _ _ Owner h f _ _ (stays o d p (h ∷ []) cs _ w c.look_at-2.ensures.has) c.in_ok-handle.ensures.stays
    (shared_alike o d c.args.at.site _ (stays o d p (h ∷ []) cs _ w c.look_at-2.ensures.has) c.requires.cell)
    c.in_ok-handle.ensures.handle says.event c.arrived.ensures.came

pub returns-in_err-handle-clause-refused : goal.returns-in_err-handle-clause-refused
returns-in_err-handle-clause-refused g c =
    let o = g.D.Domain.opened in let d = c.self.inside.desk in let says = c.in_err-handle.ensures in
    let was = was_at o d c.self.inside.pile c.self.inside.claims.entries _ c.self.invariant c.look_at.ensures.has (says.limit.0 refl).1 in
    passed_on _ _ c.in_err-handle.field-0.0 c.from_residual.ensures.1 (says.refused.0, was)

pub returns-clause-exact : goal.returns-clause-exact
returns-clause-exact g c =
    let o = g.D.Domain.opened in let d = c.given.new.desk in let p = c.self.inside.pile in let cs = c.given.new.claims.entries in
    let h = held.Owner c.in_ok-handle.handle in let w = c.in_ok-handle.ensures.hand in
    exchanges_exactly c.args.self.now.desk c.self.inside.desk d c.exchange-found.new.desk c.arrived.new.desk _ _ h (held.Owner c.exchange-found.result) _ _
    (shared_alike o d c.args.at.site _ (stays o d p (h ∷ []) cs _ w c.look_at-2.ensures.has) c.requires.cell)
    c.in_ok-handle.ensures.handle c.exchange-found.ensures.event c.arrived.ensures.came c.in_ok-handle.ensures.count c.arrived.ensures.count
    (ap (λ (x : ContextNow g.row.D-Value.Denot). x.desk) c.self.view_is)
