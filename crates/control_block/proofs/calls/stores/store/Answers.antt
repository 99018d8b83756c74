use Rattle.std.proofs.Common.{◌≡◌, ◌+◌, ◌-◌, ◌≤◌, cond, is_some, IfSome, Option, sym, refl, ap}
use Rattle.std.proofs.Common.{◌∙◌, subst, arith}
use Rattle.control_block.proofs.Prelude.{bag_size, Block, bool_byte, CellWord, desk_now, DeskNow}
use Rattle.control_block.proofs.Prelude.{handle_in, HoldingInBlock, HoldsHandle, InHand, Inside}
use Rattle.control_block.proofs.Prelude.{IsWordOf, Kind, known, NumberedHandle, object_of}
use Rattle.control_block.proofs.Prelude.{OutAndGone, Place, Released, site_place, Swap}
use Rattle.control_block.specs.Own.{KeepsHeld}
use Rattle.control_block.specs.Storing.{Replaces}
use Rattle.control_block.proofs.cells.CellDesks.{in_seat, lost_counted, lost_hand, lost_holding}
use Rattle.control_block.proofs.cells.CellDesks.{lost_room, lost_shows, lost_some, lost_word, one}
use Rattle.control_block.proofs.cells.CellSites.{cell_there, word_there}
use Rattle.control_block.proofs.EndingCounts.{few_ending}
use Rattle.control_block.proofs.desks.OwnCounts.{byte_few}
use Rattle.control_block.proofs.leavings.StoreGone as store
use Rattle.control_block.proofs.leavings.StoreGone.{IsStored}
use Rattle.control_block.proofs.leavings.GoneDesks as gone
use Rattle.control_block.proofs.leavings.GoneDesks.{Going}
use Rattle.control_block.proofs.calls.stores.store.Goals as goal

pub site_word-word-requires : goal.site_word-word-requires
site_word-word-requires g c =
    let r = c.requires in
    (word_there c.desk.inside c.desk.invariant c.args.new.kind (site_place c.domain.inside.shape.blocks c.args.site) c.args.desk.now
    c.domain.inside.table.shared.table_id c.domain.inside.shape c.args.site c.desk.view_is
    (ap (λ z. z.domain) c.desk.view_is ∙ (r.domain.table ∙ sym (ap (λ z. z.id) c.domain.view_is)))
    (ap (λ z. z.shape) c.desk.view_is ∙ (r.domain.shape ∙ sym (ap (λ z. z.shape) c.domain.view_is))) r.cell.0 refl).0

pub overflow_sub-desk : goal.overflow_sub-desk
overflow_sub-desk g c =
    let some' = lost_some c.desk.inside c.args.new.kind c.args.new.word.place c.args.new.word.block c.desk.invariant
    (subst (λ (z : DeskNow g.row.V.Denot). HoldsHandle z c.args.new.kind c.args.new.word.block c.args.new.word.place) (sym c.desk.view_is)
    c.requires.holds) in omega arith

pub store-out-requires-clause-word : goal.store-out-requires-clause-word
store-out-requires-clause-word g c =
    let r = c.requires in
    (word_there c.desk.inside c.desk.invariant c.args.new.kind c.site_word-word.result c.args.desk.now
    c.domain.inside.table.shared.table_id c.domain.inside.shape c.args.site c.desk.view_is
    (ap (λ z. z.domain) c.desk.view_is ∙ (r.domain.table ∙ sym (ap (λ z. z.id) c.domain.view_is)))
    (ap (λ z. z.shape) c.desk.view_is ∙ (r.domain.shape ∙ sym (ap (λ z. z.shape) c.domain.view_is))) r.cell.0 c.site_word-word.ensures).1

pub store-out-requires-clause-cell : goal.store-out-requires-clause-cell
store-out-requires-clause-cell g c =
    let r = c.requires in
    cell_there c.desk.inside c.desk.invariant c.args.new.kind c.site_word-word.result c.args.desk.now c.domain.inside.shape c.args.site
    g.A.CellArgs.cell c.desk.view_is (ap (λ z. z.shape) c.desk.view_is ∙ (r.domain.shape ∙ sym (ap (λ z. z.shape) c.domain.view_is))) r.cell.0 r.cell.1
    c.site_word-word.ensures

pub store-out-requires-clause-new : goal.store-out-requires-clause-new
store-out-requires-clause-new g c =
    let r = c.requires in let d = c.desk.inside in let h = c.desk.invariant in let v = d.seat.me.0 in
    let k = c.args.new.kind in let b = c.args.new.word.block in let p = c.args.new.word.place in let y = c.args.desk.now in let lost = g.A.CellArgs.new in
    let new_is : lost ≡ in_seat v k b p = r.new ∙ ap (λ (z : DeskNow g.row.V.Denot). handle_in z k b p) (sym c.desk.view_is) in (
      lost_word d y k p h c.desk.view_is b r.holds c.args.new.proper,
      subst (λ (z : NumberedHandle). IsWordOf v z record { owned = b; place = p; taken = 0 }) (sym new_is) (lost_shows d y k p h c.desk.view_is b r.holds),
    )

pub store-out-requires-clause-hand : goal.store-out-requires-clause-hand
store-out-requires-clause-hand g c =
    let r = c.requires in let d = c.desk.inside in let h = c.desk.invariant in let v = d.seat.me.0 in
    let k = c.args.new.kind in let b = c.args.new.word.block in let p = c.args.new.word.place in let y = c.args.desk.now in let lost = g.A.CellArgs.new in
    let new_is : lost ≡ in_seat v k b p = r.new ∙ ap (λ (z : DeskNow g.row.V.Denot). handle_in z k b p) (sym c.desk.view_is) in
    subst (λ (z : NumberedHandle). InHand (known v) v.view.name k z) (sym new_is)
    (lost_hand d y k p h c.desk.view_is b r.holds c.args.new.proper)

pub store-out-requires-clause-holds : goal.store-out-requires-clause-holds
store-out-requires-clause-holds g c =
    let r = c.requires in let d = c.desk.inside in let h = c.desk.invariant in let v = d.seat.me.0 in
    let k = c.args.new.kind in let b = c.args.new.word.block in let p = c.args.new.word.place in let y = c.args.desk.now in let lost = g.A.CellArgs.new in
    let new_is : lost ≡ in_seat v k b p = r.new ∙ ap (λ (z : DeskNow g.row.V.Denot). handle_in z k b p) (sym c.desk.view_is) in
    subst (λ (z : NumberedHandle). IfSome b (λ a. HoldingInBlock v z.kind (object_of z) z.place a.0)) (sym new_is)
    (lost_holding d y k p h c.desk.view_is b r.holds)

pub store-out-requires-clause-count : goal.store-out-requires-clause-count
store-out-requires-clause-count g c =
    let r = c.requires in
    lost_counted c.desk.inside c.args.desk.now c.args.new.kind c.args.new.word.place c.desk.invariant c.desk.view_is c.args.new.word.block
    c.domain.inside.table.shared.table_id (ap (λ z. z.domain) c.desk.view_is ∙ (r.domain.table ∙ sym (ap (λ z. z.id) c.domain.view_is))) r.holds

pub store-out-requires-clause-room : goal.store-out-requires-clause-room
store-out-requires-clause-room g c = λ none.
    let r = c.requires in let d = c.desk.inside in let h = c.desk.invariant in let v = d.seat.me.0 in
    let k = c.args.new.kind in let b = c.args.new.word.block in let p = c.args.new.word.place in let y = c.args.desk.now in let lost = g.A.CellArgs.new in
    let new_is : lost ≡ in_seat v k b p = r.new ∙ ap (λ (z : DeskNow g.row.V.Denot). handle_in z k b p) (sym c.desk.view_is) in
    lost_room d y k p h c.desk.view_is b r.holds (ap (λ z. z.object) (sym new_is) ∙ none)

pub overflow_add-desk : goal.overflow_add-desk
overflow_add-desk g c =
    let d = c.desk.inside in let h = c.desk.invariant in let v = d.seat.me.0 in let few = few_ending v.shape.blocks (known v) v.view.name in
    let most = h.limits.blocks in let one = byte_few c.is_some.result in omega (arith, h.ended, c.from.ensures)

pub put_by_out-requires : goal.put_by_out-requires
put_by_out-requires g c =
    let d = c.desk.inside in let h = c.desk.invariant in let k = c.args.new.kind in let b = c.args.new.word.block in let p = c.args.new.word.place in
    let is' = c.requires.new ∙ ap (λ (z : DeskNow g.row.V.Denot). handle_in z k b p) (sym c.desk.view_is) in
    let has' = subst (λ (z : DeskNow g.row.V.Denot). HoldsHandle z k b p) (sym c.desk.view_is) c.requires.holds in
    let some' = lost_some d k p b h has' in
    let u = c.store-out.ensures.stored in let x = c.store-out.result.0 in let same = c.store-out.ensures.seat.0 in
    let f : Inside g.row.V.Denot =
    record {
      seat = c.store-out.new.seat;
      allowance = d.allowance;
      held = d.held - 1;
      endings = d.endings;
      store = d.store;
      shelf_word = d.shelf_word;
    } in
    record {
      room = gone.room_gone (store.going k d f h g.A.CellArgs.cell g.A.CellArgs.new b p x is' has' u.between u.out same c.store-out.result.1 u.gone
          (omega arith));
    }

module _ (g : _) (c : goal.After-content-1 g) where
  abbrev d : Inside g.row.V.Denot
  d = c.desk.inside

  abbrev k : Kind
  k = c.args.new.kind

  abbrev b : Option Block
  b = c.args.new.word.block

  abbrev p : Option Place
  p = c.args.new.word.place

  abbrev f : Inside g.row.V.Denot
  f = record {
    seat = c.store-out.new.seat;
    allowance = d.allowance;
    held = d.held - 1;
    endings = d.endings + c.from.result;
    store = c.put_by_out.new.store;
    shelf_word = d.shelf_word;
  }

  abbrev x : CellWord
  x = c.store-out.result.0

  abbrev q : Released g.row.V.Denot
  q = c.store-out.result.1

  is : g.A.CellArgs.new ≡ in_seat d.seat.me.0 k b p
  is = c.requires.new ∙ ap (λ (z : DeskNow g.row.V.Denot). handle_in z k b p) (sym c.desk.view_is)

  has : HoldsHandle (desk_now d) k b p
  has = subst (λ (z : DeskNow g.row.V.Denot). HoldsHandle z k b p) (sym c.desk.view_is) c.requires.holds

  table : f.seat.table_id ≡ d.seat.table_id
  table = c.store-out.ensures.seat.0

  held : f.held + 1 ≡ d.held
  held = let some' = lost_some d k p b c.desk.invariant has in omega arith

  o : OutAndGone (λ y. Swap g.A.CellArgs.cell g.A.CellArgs.new y) k d.seat.me.0 x q f.seat.me.0
  o = c.store-out.ensures.stored

  -- the desk between the two events
  abbrev t : Inside g.row.V.Denot
  t = store.t k d f c.desk.invariant g.A.CellArgs.cell g.A.CellArgs.new b p x is has o.between o.out table

  going : Going k t f x.owned x.place q
  going = store.going k d f c.desk.invariant g.A.CellArgs.cell g.A.CellArgs.new b p x is has o.between o.out table q o.gone held

  inside : IsStored k b p (desk_now d) (cond q.vacant 1 0) (cond (is_some q.value) 1 0) (desk_now f)
  inside =
      store.stored k d f c.desk.invariant g.A.CellArgs.cell g.A.CellArgs.new b p x is has o.between o.out table
      (gone.has_gone going)

  stored : IsStored k b p c.args.desk.now (cond q.vacant 1 0) (cond (is_some q.value) 1 0) (desk_now f)
  stored =
      subst (λ (z : DeskNow g.row.V.Denot). IsStored k b p z (cond q.vacant 1 0) (cond (is_some q.value) 1 0) (desk_now f)) c.desk.view_is inside

  room : bag_size (known o.between) o.between.view.name + 1 ≤ t.held + one x.owned
  room = store.room k d f c.desk.invariant g.A.CellArgs.cell g.A.CellArgs.new b p x is has o.between o.out table

pub invariant_of-desk : goal.invariant_of-desk
invariant_of-desk g c =
    gone.desk_gone (going g c) c.store-out.ensures.seat.2.none c.put_by_out.ensures.items c.put_by_out.ensures.capacity refl
    c.from.result (c.from.ensures ∙ ap bool_byte c.is_some.ensures) refl (room g c)
    (let h = c.desk.invariant in let some' = held g c in let one' = byte_few c.is_some.result in omega (arith, h.within, c.from.ensures))

pub returns-clause-stored : goal.returns-clause-stored
returns-clause-stored g c =
    rw c.handle.ensures
    (subst (λ (z : DeskNow g.row.V.Denot). Replaces (k g c) z g.A.CellArgs.cell g.A.CellArgs.new (x g c).owned (x g c).place (q g c) (desk_now (f g c)))
    c.desk.view_is
    record {
      between = desk_now (t g c);
      swaps = store.swaps (k g c) (d g c) (f g c) c.desk.invariant g.A.CellArgs.cell g.A.CellArgs.new (b g c) (p g c) (x g c) (is g c) (has g c) (o g c).between
          (o g c).out (table g c);
      lets = gone.lets_go (going g c);
    })

pub returns-clause-kind : goal.returns-clause-kind
returns-clause-kind g c = gone.only (going g c)

pub returns-clause-bag : goal.returns-clause-bag
returns-clause-bag g c = (stored g c).bag

pub returns-clause-held : goal.returns-clause-held
returns-clause-held g c = let less = held g c in let e = ap (λ z. z.held) c.desk.view_is in omega arith

pub returns-clause-desk : goal.returns-clause-desk
returns-clause-desk g c = (stored g c).desk

pub returns-clause-stock : goal.returns-clause-stock
returns-clause-stock g c = (stored g c).stock

pub returns-clause-endings : goal.returns-clause-endings
returns-clause-endings g c = (stored g c).endings

pub returns-clause-latest : goal.returns-clause-latest
returns-clause-latest g c =
    subst (λ (z : DeskNow g.row.V.Denot). KeepsHeld z (desk_now (f g c))) c.desk.view_is
    (store.keeps_held (k g c) (d g c) (f g c) c.desk.invariant g.A.CellArgs.cell g.A.CellArgs.new (b g c) (p g c) (x g c) (is g c) (has g c) (o g c).between
    (o g c).out (table g c) (q g c) (gone.lets_go (going g c)) (inside g c).bag)

pub returns-clause-count : goal.returns-clause-count
returns-clause-count g c = (stored g c).count

pub invariant_of-content : goal.invariant_of-content
invariant_of-content g c =
    let d = c.desk.inside in let h = c.desk.invariant in let k = c.args.new.kind in let b = c.args.new.word.block in let p = c.args.new.word.place in
    let is' = c.requires.new ∙ ap (λ (z : DeskNow g.row.V.Denot). handle_in z k b p) (sym c.desk.view_is) in
    let has' = subst (λ (z : DeskNow g.row.V.Denot). HoldsHandle z k b p) (sym c.desk.view_is) c.requires.holds in
    let some' = lost_some d k p b h has' in
    let u = c.store-out.ensures.stored in let x = c.store-out.result.0 in let same = c.store-out.ensures.seat.0 in
    let f : Inside g.row.V.Denot =
    record {
      seat = c.store-out.new.seat;
      allowance = d.allowance;
      held = d.held - 1;
      endings = d.endings;
      store = d.store;
      shelf_word = d.shelf_word;
    } in
    record { proper = rw c.handle.ensures (store.proper_is k d f h g.A.CellArgs.cell g.A.CellArgs.new b p x is' has' u.between u.out same) }
