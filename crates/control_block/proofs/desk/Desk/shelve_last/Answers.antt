use Rattle.std.proofs.Common.{◌/◌, length, None, sym, refl, ap, ◌∙◌, arith}
use Rattle.control_block.proofs.Prelude.{Idle, opening_of, shelf_at, Shelve, sound, stock_of}
use Rattle.control_block.proofs.desks.DeskBags.{calm}
use Rattle.control_block.proofs.desks.DeskSteps.{as_many, came, desk_after, ending_same}
use Rattle.control_block.proofs.desks.DeskStores.{last_stored, popped, stock_shrinks}
use Rattle.control_block.proofs.Passage.{plain}
use Rattle.control_block.proofs.Shelving.{passed_one, shelf_inside}
use Rattle.control_block.proofs.desk.Desk.shelve_last.Goals as goal

pub unreachable-unreachable : goal.unreachable-unreachable
unreachable-unreachable g c =
    let m = ap (λ z. length (stock_of z)) c.self.view_is in let n = c.self.invariant.many in let r = c.requires.stock in
    let t = c.in_default.ensures.cases.0 in omega (arith, m, n, r, t, c.self.inside.store.ok)

pub shelve-requires-clause-stored : goal.shelve-requires-clause-stored
shelve-requires-clause-stored g c =
    last_stored c.self.inside c.self.invariant c.pop.new.self.items c.in-Some.block c.in-Some.ensures.items

pub shelve-requires-clause-place : goal.shelve-requires-clause-place
shelve-requires-clause-place g c =
    let v = c.self.inside.seat.me.0 in let h = c.self.invariant in
    let mine = last_stored c.self.inside h c.pop.new.self.items c.in-Some.block c.in-Some.ensures.items in
    let inside = ((sound (opening_of v.shape) v.view.seen h.legal).stores v.view.name c.in-Some.block.0 mine).1 in let low = inside.1 in
    let same = ap (λ z. z.shape.blocks) c.self.view_is ∙ ap (λ y. y.blocks) c.requires.domain.shape in
    shelf_inside c.self.inside c.domain.inside.table.shared.table_id c.args.domain.now.shape c.shelf_place-place.result (c.in-Some.block.0 / 64)
    c.self.invariant (ap (λ z. z.domain) c.self.view_is ∙ (c.requires.domain.table ∙ sym (ap (λ z. z.id) c.domain.view_is)))
    (ap (λ z. z.shape) c.self.view_is ∙ c.requires.domain.shape)
    (c.shelf_place-place.ensures ∙ ap (λ b. shelf_at c.args.domain.now.shape (b / 64)) c.number.ensures) (omega (arith, low, same))

pub invariant_of-self : goal.invariant_of-self
invariant_of-self g c =
    let d = c.self.inside in let h = c.self.invariant in let v = d.seat.me.0 in let w = c.shelve.new.seat.me.0 in let s = c.shelve.ensures in
    let e = Shelve c.in-Some.block in let t = came v w Idle None e s.event in
    let size = as_many v w e t refl in
    desk_after d _ e h s.event s.seat.0 (s.seat.2 ∙ h.rests.none) (λ y x. refl) refl
    (popped d h t.state _ c.in-Some.block t.same c.in-Some.ensures.items t.asks) c.in-Some.ensures.capacity
    (omega (arith, size, h.holding)) h.within (h.ended ∙ sym (ending_same v w e t (plain (λ y x. refl) (λ y x. refl) (λ y f. refl))))

pub returns : goal.returns
returns g c =
    let d = c.self.inside in let h = c.self.invariant in let v = d.seat.me.0 in let w = c.shelve.new.seat.me.0 in let s = c.shelve.ensures in
    let b = c.in-Some.block in let t = came v w Idle None (Shelve b) s.event in
    record {
      shelved = record {
        passes = passed_one d w Shelve b h s.event (calm (λ y n. refl) (λ y n. refl) (λ y f. refl)) (λ y n. refl) (λ y n. refl)
            c.shelve.new.seat.table_id s.seat.0 c.args.self.now c.self.view_is;
        stock = stock_shrinks d h w (Shelve b) t b.0 refl t.asks ∙ ap (λ z. length (stock_of z)) c.self.view_is;
      };
    }
