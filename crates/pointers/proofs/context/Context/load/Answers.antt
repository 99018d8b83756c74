use Rattle.std.proofs.Common.{List, [], ◌∷◌, Option, sym, refl, ap, subst}
use Rattle.pointers.proofs.Prelude.{IsWholeBeside, Known, Owner}
use Rattle.control_block.specs.declared.handles.Held.TheVariants as held
use Rattle.pointers.proofs.HandCalls.{loads_exactly}
use Rattle.pointers.specs.Whole.{ContextNow}
use Rattle.pointers.proofs.CellCalls.{loaded, open_shared, shared_alike, stays}
use Rattle.pointers.proofs.Handles.{passed_on, was_at}
use Rattle.pointers.proofs.InHand.{bears_on, comes, nothing_beside}
use Rattle.pointers.proofs.Later.{by_event}
use Rattle.pointers.proofs.context.Context.load.Goals as goal

pub load-requires-clause-cell : goal.load-requires-clause-cell
load-requires-clause-cell g c =
    let o = g.D.Domain.opened in let d = c.self.inside.desk in let p = c.self.inside.pile in let cs = c.self.inside.claims.entries in
    open_shared o d p [] cs c.args.at.site _ (nothing_beside o d p cs c.self.invariant) c.requires.cell c.look_at.ensures.has

pub arrived-requires-clause-hand : goal.arrived-requires-clause-hand
arrived-requires-clause-hand g c =
    let o = g.D.Domain.opened in let d = c.self.inside.desk in let e = c.load.new.desk in let p = c.self.inside.pile in let cs = c.self.inside.claims.entries in
    let h = held.Owner c.in_ok-found.found in let says = c.in_ok-found.ensures in let w = nothing_beside o d p cs c.self.invariant in
    subst (λ (l : List (Option (Known g.row.D-Value.Denot))). IsWholeBeside o e p (h ∷ []) l) (sym c.look_at.ensures.claims)
    (comes o d e p p h [] cs w c.assert_invariant.ensures (by_event d _ e says.event) (bears_on o d e p [] cs w says.keeps) says.bag says.held)

pub returns-clause-loaded : goal.returns-clause-loaded
returns-clause-loaded g c =
    let o = g.D.Domain.opened in let d = c.self.inside.desk in let e = c.load.new.desk in let p = c.self.inside.pile in let cs = c.self.inside.claims.entries in
    let says = c.in_ok-found.ensures in let w = nothing_beside o d p cs c.self.invariant in
    loaded o d e _ _ _ Owner (held.Owner c.in_ok-found.found) _ (stays o d p [] cs _ w c.look_at.ensures.has)
    (shared_alike o d c.args.at.site _ (stays o d p [] cs _ w c.look_at.ensures.has) c.requires.cell) says.event c.arrived.ensures.came

pub returns-in_err-found-clause-refused : goal.returns-in_err-found-clause-refused
returns-in_err-found-clause-refused g c =
    let o = g.D.Domain.opened in let d = c.self.inside.desk in let says = c.in_err-found.ensures in
    let was = was_at o d c.self.inside.pile c.self.inside.claims.entries _ c.self.invariant c.look_at.ensures.has (says.limit.0 refl) in
    passed_on _ _ c.in_err-found.field-0.0 c.from_residual.ensures.1 (says.refused.0, was)

pub returns-clause-exact : goal.returns-clause-exact
returns-clause-exact g c =
    let o = g.D.Domain.opened in let d = c.self.inside.desk in let e = c.load.new.desk in let p = c.self.inside.pile in let cs = c.self.inside.claims.entries in
    let says = c.in_ok-found.ensures in let w = nothing_beside o d p cs c.self.invariant in
    loads_exactly c.args.self.now.desk d e c.arrived.new.desk _ _ (held.Owner c.in_ok-found.found) _
    (shared_alike o d c.args.at.site _ (stays o d p [] cs _ w c.look_at.ensures.has) c.requires.cell) says.event c.arrived.ensures.came c.arrived.ensures.count
    (ap (λ (x : ContextNow g.row.D-Value.Denot). x.desk) c.self.view_is)
