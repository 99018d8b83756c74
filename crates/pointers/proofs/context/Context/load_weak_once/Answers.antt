use Rattle.std.proofs.Common.{List, [], ◌∷◌, Option, sym, subst}
use Rattle.pointers.proofs.Prelude.{IsWholeBeside, Known, Weak}
use Rattle.control_block.specs.declared.handles.Held.TheVariants as held
use Rattle.pointers.proofs.CellCalls.{loaded, open_weak, weak_alike, stays}
use Rattle.pointers.proofs.InHand.{bears_on, comes, nothing_beside}
use Rattle.pointers.proofs.Later.{by_event}
use Rattle.pointers.proofs.context.Context.load_weak_once.Goals as goal

pub load_once-requires-clause-cell : goal.load_once-requires-clause-cell
load_once-requires-clause-cell g c =
    let o = g.D.Domain.opened in let d = c.self.inside.desk in let p = c.self.inside.pile in let cs = c.self.inside.claims.entries in
    open_weak o d p [] cs c.args.at.site _ (nothing_beside o d p cs c.self.invariant) c.requires.cell c.look_at.ensures.has

pub arrived_weak-requires-clause-hand : goal.arrived_weak-requires-clause-hand
arrived_weak-requires-clause-hand g c =
    let o = g.D.Domain.opened in let d = c.self.inside.desk in let e = c.load_once.new.desk in let p = c.self.inside.pile in
    let cs = c.self.inside.claims.entries in
    let h = held.Weak c.in-Some.found in let says = c.in-Some.ensures in let w = nothing_beside o d p cs c.self.invariant in
    subst (λ (l : List (Option (Known g.row.D-Value.Denot))). IsWholeBeside o e p (h ∷ []) l) (sym c.look_at.ensures.claims)
    (comes o d e p p h [] cs w c.assert_invariant.ensures (by_event d _ e says.event) (bears_on o d e p [] cs w says.keeps) says.bag says.held)

pub returns : goal.returns
returns g c =
    let o = g.D.Domain.opened in let d = c.self.inside.desk in let e = c.load_once.new.desk in let p = c.self.inside.pile in
    let cs = c.self.inside.claims.entries in
    let says = c.in-Some.ensures in let w = nothing_beside o d p cs c.self.invariant in
    loaded o d e _ _ _ Weak (held.Weak c.in-Some.found) _ (stays o d p [] cs _ w c.look_at.ensures.has)
    (weak_alike o d c.args.at.site _ (stays o d p [] cs _ w c.look_at.ensures.has) c.requires.cell) says.event c.arrived_weak.ensures.came
