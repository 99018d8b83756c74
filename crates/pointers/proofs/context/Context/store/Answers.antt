use Rattle.std.proofs.Common.{◌∷◌, [], List, Option, sym, refl, ap, subst}
use Rattle.pointers.proofs.Prelude.{IsWhole, Known}
use Rattle.control_block.specs.declared.handles.Held.TheVariants as held
use Rattle.shared_handle.proofs.Piles.{carries_left, left_elsewhere, room_piled}
use Rattle.atomic_cells.proofs.Endings.{stored_ends}
use Rattle.pointers.proofs.Calls.{by_left}
use Rattle.pointers.proofs.HandCalls.{stores_exactly}
use Rattle.pointers.specs.Whole.{ContextNow}
use Rattle.pointers.proofs.CellCalls.{open_shared, shared_alike, stays, stored}
use Rattle.pointers.proofs.Handles.{passed_on, was_at}
use Rattle.pointers.proofs.InHand.{bears_more, carries_here, in_hand, leaves_then, whole_again}
use Rattle.pointers.proofs.Later.{by_event}
use Rattle.pointers.proofs.context.Context.store.Goals as goal

pub store-left-requires-clause-cell : goal.store-left-requires-clause-cell
store-left-requires-clause-cell g c =
    let o = g.D.Domain.opened in let d = c.given.new.desk in let p = c.self.inside.pile in let cs = c.given.new.claims.entries in
    let h = held.Owner c.in_ok-handle.handle in let w = c.in_ok-handle.ensures.hand in
    open_shared o d p (h ∷ []) cs c.args.at.site _ w c.requires.cell c.look_at-2.ensures.has

pub store-left-requires-clause-holds : goal.store-left-requires-clause-holds
store-left-requires-clause-holds g c =
    let o = g.D.Domain.opened in let d = c.given.new.desk in let p = c.self.inside.pile in let cs = c.given.new.claims.entries in
    let h = held.Owner c.in_ok-handle.handle in let w = c.in_ok-handle.ensures.hand in
    in_hand o d p h [] cs w

pub put-requires : goal.put-requires
put-requires g c = record {
  room = (let o = g.D.Domain.opened in let d = c.given.new.desk in let p = c.self.inside.pile in let cs = c.given.new.claims.entries in
      let h = held.Owner c.in_ok-handle.handle in let w = c.in_ok-handle.ensures.hand in let t = c.store-left in
      room_piled c.args.domain.now d t.new.desk p t.result (carries_here o c.args.domain.now d p (h ∷ []) cs w c.requires.domain) t.ensures.keeps
      (stored_ends d t.new.desk _ _ _ t.result t.ensures.stored t.ensures.apart) c.assert_invariant-2.ensures);
}

pub invariant_of-self-2 : goal.invariant_of-self-2
invariant_of-self-2 g c =
    let o = g.D.Domain.opened in let d = c.given.new.desk in let p = c.self.inside.pile in let cs = c.given.new.claims.entries in
    let h = held.Owner c.in_ok-handle.handle in let w = c.in_ok-handle.ensures.hand in let y = c.args.domain.now in
    let t = c.store-left in let e = t.new.desk in let q = c.put.new.self in let says = t.ensures in let s = says.stored in
    let ends = stored_ends d e _ _ _ t.result s says.apart in
    let carries = carries_left y d e p q t.result (carries_here o y d p (h ∷ []) cs w c.requires.domain) says.keeps ends c.put.ensures.endings
    c.put.ensures.room in
    let elsewhere = left_elsewhere d e t.result p.endings.items q.endings.items says.keeps ends says.count c.put.ensures.endings in
    subst (λ (l : List (Option (Known g.row.D-Value.Denot))). IsWhole o e q l) (sym c.look_at-2.ensures.claims)
    (whole_again o e q cs
    (leaves_then o d s.between e p q h [] cs w (by_event d _ s.between s.exchanges) (by_left s.between s.block s.place t.result e s.leaves)
    says.latest (bears_more o y d e p q (h ∷ []) cs w c.requires.domain carries elsewhere) says.bag says.held))

pub returns-clause-stored : goal.returns-clause-stored
returns-clause-stored g c =
    let o = g.D.Domain.opened in let d = c.given.new.desk in let p = c.self.inside.pile in let cs = c.given.new.claims.entries in
    let h = held.Owner c.in_ok-handle.handle in let w = c.in_ok-handle.ensures.hand in let t = c.store-left in
    stored o d t.new.desk _ _ _ h _ t.result _ (stays o d p (h ∷ []) cs _ w c.look_at-2.ensures.has) c.in_ok-handle.ensures.stays
    (shared_alike o d c.args.at.site _ (stays o d p (h ∷ []) cs _ w c.look_at-2.ensures.has) c.requires.cell)
    c.in_ok-handle.ensures.handle t.ensures.stored c.put.ensures.told

pub returns-in_err-handle-clause-refused : goal.returns-in_err-handle-clause-refused
returns-in_err-handle-clause-refused g c =
    let o = g.D.Domain.opened in let d = c.self.inside.desk in let says = c.in_err-handle.ensures in
    let was = was_at o d c.self.inside.pile c.self.inside.claims.entries _ c.self.invariant c.look_at.ensures.has (says.limit.0 refl).1 in
    passed_on _ _ c.in_err-handle.field-0.0 c.from_residual.ensures.1 (says.refused.0, was)

pub returns-clause-exact : goal.returns-clause-exact
returns-clause-exact g c =
    let o = g.D.Domain.opened in let d = c.given.new.desk in let p = c.self.inside.pile in let cs = c.given.new.claims.entries in
    let h = held.Owner c.in_ok-handle.handle in let w = c.in_ok-handle.ensures.hand in let t = c.store-left in
    stores_exactly c.args.self.now.desk c.self.inside.desk d t.new.desk _ _ h _ t.result
    (shared_alike o d c.args.at.site _ (stays o d p (h ∷ []) cs _ w c.look_at-2.ensures.has) c.requires.cell)
    c.in_ok-handle.ensures.handle t.ensures.stored c.in_ok-handle.ensures.count
    (ap (λ (x : ContextNow g.row.D-Value.Denot). x.desk) c.self.view_is)
