use Rattle.std.proofs.Common.{◌≡◌, IfSome, sym, refl, ap, ◌∙◌, subst, arith}
use Rattle.control_block.proofs.Prelude.{Cell, DeskNow, handle_in, HoldingInBlock, InHand}
use Rattle.control_block.proofs.Prelude.{IsWordOf, known, NumberedHandle, object_of, site_place}
use Rattle.control_block.proofs.Prelude.{Swap}
use Rattle.control_block.proofs.cells.CellDesks.{fits, in_seat, lost_counted, lost_hand}
use Rattle.control_block.proofs.cells.CellDesks.{lost_holding, lost_room, lost_shows, lost_word}
use Rattle.control_block.proofs.cells.CellDesks.{one, one_few}
use Rattle.control_block.proofs.cells.CellOutcomes.{Came, bag_then, desk_then, event_of, has_here}
use Rattle.control_block.proofs.cells.CellOutcomes.{holds_it, is_proper, keeps_else, size_now}
use Rattle.control_block.proofs.cells.CellOutcomes.{swapped}
use Rattle.control_block.proofs.cells.CellSites.{cell_there, word_there}
use Rattle.control_block.proofs.calls.cells.exchange.Goals as goal

pub site_word-word-requires : goal.site_word-word-requires
site_word-word-requires g c =
    let r = c.requires in
    (word_there c.desk.inside c.desk.invariant c.args.new.kind (site_place c.domain.inside.shape.blocks c.args.site) c.args.desk.now
    c.domain.inside.table.shared.table_id c.domain.inside.shape c.args.site c.desk.view_is
    (ap (λ z. z.domain) c.desk.view_is ∙ (r.domain.table ∙ sym (ap (λ z. z.id) c.domain.view_is)))
    (ap (λ z. z.shape) c.desk.view_is ∙ (r.domain.shape ∙ sym (ap (λ z. z.shape) c.domain.view_is))) r.cell.0 refl).0

pub swap-old-requires-clause-word : goal.swap-old-requires-clause-word
swap-old-requires-clause-word g c =
    let r = c.requires in
    (word_there c.desk.inside c.desk.invariant c.args.new.kind c.site_word-word.result c.args.desk.now
    c.domain.inside.table.shared.table_id c.domain.inside.shape c.args.site c.desk.view_is
    (ap (λ z. z.domain) c.desk.view_is ∙ (r.domain.table ∙ sym (ap (λ z. z.id) c.domain.view_is)))
    (ap (λ z. z.shape) c.desk.view_is ∙ (r.domain.shape ∙ sym (ap (λ z. z.shape) c.domain.view_is))) r.cell.0 c.site_word-word.ensures).1

pub swap-old-requires-clause-cell : goal.swap-old-requires-clause-cell
swap-old-requires-clause-cell g c =
    let r = c.requires in
    cell_there c.desk.inside c.desk.invariant c.args.new.kind c.site_word-word.result c.args.desk.now c.domain.inside.shape c.args.site
    g.A.CellArgs.cell c.desk.view_is (ap (λ z. z.shape) c.desk.view_is ∙ (r.domain.shape ∙ sym (ap (λ z. z.shape) c.domain.view_is))) r.cell.0 r.cell.1
    c.site_word-word.ensures

pub swap-old-requires-clause-new : goal.swap-old-requires-clause-new
swap-old-requires-clause-new g c =
    let r = c.requires in let d = c.desk.inside in let h = c.desk.invariant in let v = d.seat.me.0 in let k = c.args.new.kind in
    let b = c.args.new.word.block in let p = c.args.new.word.place in let y = c.args.desk.now in let lost = g.A.CellArgs.new in
    let new_is : lost ≡ in_seat v k b p = r.new ∙ ap (λ (z : DeskNow g.row.V.Denot). handle_in z k b p) (sym c.desk.view_is) in (
      lost_word d y k p h c.desk.view_is b r.holds c.args.new.proper,
      subst (λ (z : NumberedHandle). IsWordOf v z record { owned = b; place = p; taken = 0 }) (sym new_is) (lost_shows d y k p h c.desk.view_is b r.holds),
    )

pub swap-old-requires-clause-hand : goal.swap-old-requires-clause-hand
swap-old-requires-clause-hand g c =
    let r = c.requires in let d = c.desk.inside in let h = c.desk.invariant in let v = d.seat.me.0 in let k = c.args.new.kind in
    let b = c.args.new.word.block in let p = c.args.new.word.place in let y = c.args.desk.now in let lost = g.A.CellArgs.new in
    let new_is : lost ≡ in_seat v k b p = r.new ∙ ap (λ (z : DeskNow g.row.V.Denot). handle_in z k b p) (sym c.desk.view_is) in
    subst (λ (z : NumberedHandle). InHand (known v) v.view.name k z) (sym new_is)
    (lost_hand d y k p h c.desk.view_is b r.holds c.args.new.proper)

pub swap-old-requires-clause-holds : goal.swap-old-requires-clause-holds
swap-old-requires-clause-holds g c =
    let r = c.requires in let d = c.desk.inside in let h = c.desk.invariant in let v = d.seat.me.0 in let k = c.args.new.kind in
    let b = c.args.new.word.block in let p = c.args.new.word.place in let y = c.args.desk.now in let lost = g.A.CellArgs.new in
    let new_is : lost ≡ in_seat v k b p = r.new ∙ ap (λ (z : DeskNow g.row.V.Denot). handle_in z k b p) (sym c.desk.view_is) in
    subst (λ (z : NumberedHandle). IfSome b (λ a. HoldingInBlock v z.kind (object_of z) z.place a.0)) (sym new_is)
    (lost_holding d y k p h c.desk.view_is b r.holds)

pub swap-old-requires-clause-count : goal.swap-old-requires-clause-count
swap-old-requires-clause-count g c =
    let r = c.requires in
    lost_counted c.desk.inside c.args.desk.now c.args.new.kind c.args.new.word.place c.desk.invariant c.desk.view_is c.args.new.word.block
    c.domain.inside.table.shared.table_id (ap (λ z. z.domain) c.desk.view_is ∙ (r.domain.table ∙ sym (ap (λ z. z.id) c.domain.view_is))) r.holds

pub swap-old-requires-clause-room : goal.swap-old-requires-clause-room
swap-old-requires-clause-room g c = λ none.
    let r = c.requires in let d = c.desk.inside in let h = c.desk.invariant in let v = d.seat.me.0 in let k = c.args.new.kind in
    let b = c.args.new.word.block in let p = c.args.new.word.place in let y = c.args.desk.now in let lost = g.A.CellArgs.new in
    let new_is : lost ≡ in_seat v k b p = r.new ∙ ap (λ (z : DeskNow g.row.V.Denot). handle_in z k b p) (sym c.desk.view_is) in
    lost_room d y k p h c.desk.view_is b r.holds (ap (λ z. z.object) (sym new_is) ∙ none)

module _ (g : _) (c : goal.After-result-1 g) where
  abbrev cell : Cell
  cell = g.A.CellArgs.cell

  came : Came c.desk.inside c.swap-old.new.seat.me.0 cell (λ z. Swap cell g.A.CellArgs.new z) c.args.new.kind c.swap-old.result c.args.new.word.block
      c.args.new.word.place
  came = swapped _ c.desk.invariant _ _ _ _ _ _ _ _ c.desk.view_is c.requires.new c.requires.holds c.swap-old.ensures.swapped

pub invariant_of-desk : goal.invariant_of-desk
invariant_of-desk g c =
    let d = c.desk.inside in let h = c.desk.invariant in let r = c.requires in let t = c.swap-old.ensures in let few = one_few c.swap-old.result.owned in
    let new = c.args.new in let fit = fits d new.kind new.word.place new.word.block h
    (has_here d c.args.desk.now new.kind new.word.block new.word.place c.desk.view_is r.holds) in
    desk_then _ h (swapped _ h _ g.A.CellArgs.cell _ _ _ _ _ _ c.desk.view_is r.new r.holds t.swapped) t.seat.0 t.seat.2.none refl refl refl
    (λ size. omega (arith, size, few, fit)) (omega (arith, h.within))

pub returns-clause-event : goal.returns-clause-event
returns-clause-event g c = rw c.handle.ensures (event_of c.desk.invariant (came g c) _ _ _ c.desk.view_is c.swap-old.ensures.seat.0)

pub returns-clause-bag : goal.returns-clause-bag
returns-clause-bag g c = rw c.handle.ensures (bag_then c.desk.invariant (came g c) _ c.desk.view_is)

pub returns-clause-holds : goal.returns-clause-holds
returns-clause-holds g c =
    let d = c.desk.inside in let h = c.desk.invariant in let size = size_now h (came g c) in
    let new = c.args.new in
    let fit = fits d new.kind new.word.place new.word.block h
    (has_here d c.args.desk.now new.kind new.word.block new.word.place c.desk.view_is c.requires.holds) in
    rw c.handle.ensures (holds_it h (came g c) c.swap-old.new.seat.table_id d.held (λ none. let q = ap one none in omega (arith, size, fit, q)))

pub invariant_of-result : goal.invariant_of-result
invariant_of-result g c =
    record {
      proper = rw c.handle.ensures
          (is_proper c.desk.invariant (swapped _ c.desk.invariant _ g.A.CellArgs.cell _ _ _ _ _ _ c.desk.view_is c.requires.new c.requires.holds
          c.swap-old.ensures.swapped));
    }

pub returns-clause-keeps : goal.returns-clause-keeps
returns-clause-keeps g c = keeps_else c.desk.invariant (came g c) _ _ _ c.desk.view_is c.swap-old.ensures.seat.0
