use Rattle.std.proofs.Common.{◌∷◌, [], List, Option, sym, refl, subst, ◌∙◌, arith}
use Rattle.pointers.proofs.Prelude.{domain_of, IsWhole, Known}
use Rattle.control_block.specs.declared.handles.Held.TheVariants as held
use Rattle.atomic_cells.proofs.Endings.{weak_none, weak_piled}
use Rattle.pointers.proofs.Calls.{by_weak_leave}
use Rattle.pointers.proofs.CellCalls.{open_weak, stays, stored_weakly, weak_alike}
use Rattle.pointers.proofs.Handles.{passed_on, was_at}
use Rattle.pointers.proofs.InHand.{bears_pile, bears_same, in_hand, leaves_then, room_there, whole_again}
use Rattle.pointers.proofs.Later.{by_event}
use Rattle.pointers.proofs.context.Context.store_weak.Goals as goal

pub store-left-requires-clause-cell : goal.store-left-requires-clause-cell
store-left-requires-clause-cell g c =
    let o = g.D.Domain.opened in let d = c.given_weak.new.desk in let p = c.self.inside.pile in let cs = c.given_weak.new.claims.entries in
    let h = held.Weak c.in_ok-handle.handle in let w = c.in_ok-handle.ensures.hand in
    open_weak o d p (h ∷ []) cs c.args.at.site _ w c.requires.cell c.look_at-2.ensures.has

pub store-left-requires-clause-holds : goal.store-left-requires-clause-holds
store-left-requires-clause-holds g c =
    let o = g.D.Domain.opened in let d = c.given_weak.new.desk in let p = c.self.inside.pile in let cs = c.given_weak.new.claims.entries in
    let h = held.Weak c.in_ok-handle.handle in let w = c.in_ok-handle.ensures.hand in
    in_hand o d p h [] cs w

pub put-requires : goal.put-requires
put-requires g c = record {
  room = (let o = g.D.Domain.opened in let d = c.given_weak.new.desk in let p = c.self.inside.pile in let cs = c.given_weak.new.claims.entries in
      let h = held.Weak c.in_ok-handle.handle in let w = c.in_ok-handle.ensures.hand in let t = c.store-left in
      let room = room_there o d p (h ∷ []) cs w c.assert_invariant.ensures in let none = weak_none _ t.result t.ensures.stored.told in omega arith);
}

pub invariant_of-self-2 : goal.invariant_of-self-2
invariant_of-self-2 g c =
    let o = g.D.Domain.opened in let d = c.given_weak.new.desk in let p = c.self.inside.pile in let cs = c.given_weak.new.claims.entries in
    let h = held.Weak c.in_ok-handle.handle in let w = c.in_ok-handle.ensures.hand in
    let t = c.store-left in let e = t.new.desk in let q = c.put.new.self in let says = t.ensures in let s = says.stored in
    let bears = bears_pile (domain_of o) e p q (bears_same o d e p (h ∷ []) cs w says.desk says.endings says.count)
    (c.put.ensures.endings ∙ weak_piled _ t.result p.endings.items s.told) c.put.ensures.room in
    subst (λ (l : List (Option (Known g.row.D-Value.Denot))). IsWhole o e q l) (sym c.look_at-2.ensures.claims)
    (whole_again o e q cs
    (leaves_then o d s.between e p q h [] cs w (by_event d _ s.between s.exchanges) (by_weak_leave s.between s.block s.place s.vacant e s.leaves)
    says.latest bears says.bag says.held))

pub returns-clause-stored : goal.returns-clause-stored
returns-clause-stored g c =
    let o = g.D.Domain.opened in let d = c.given_weak.new.desk in let p = c.self.inside.pile in let cs = c.given_weak.new.claims.entries in
    let h = held.Weak c.in_ok-handle.handle in let w = c.in_ok-handle.ensures.hand in let t = c.store-left in
    stored_weakly o d t.new.desk _ _ _ h _ t.result (stays o d p (h ∷ []) cs _ w c.look_at-2.ensures.has) c.in_ok-handle.ensures.stays
    (weak_alike o d c.args.at.site _ (stays o d p (h ∷ []) cs _ w c.look_at-2.ensures.has) c.requires.cell)
    c.in_ok-handle.ensures.handle t.ensures.stored

pub returns-in_err-handle-clause-refused : goal.returns-in_err-handle-clause-refused
returns-in_err-handle-clause-refused g c =
    let o = g.D.Domain.opened in let d = c.self.inside.desk in let says = c.in_err-handle.ensures in
    let was = was_at o d c.self.inside.pile c.self.inside.claims.entries _ c.self.invariant c.look_at.ensures.has (says.limit.0 refl).1 in
    passed_on _ _ c.in_err-handle.field-0.0 c.from_residual.ensures.1 (says.refused.0, was)
