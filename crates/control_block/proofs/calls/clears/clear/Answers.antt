use Rattle.std.proofs.Common.{◌≡◌, ◌+◌, ◌<◌, cond, is_some, sym, refl, ap, ◌∙◌, subst, arith}
use Rattle.control_block.proofs.Prelude.{bool_byte, CellWord, ClearMember, desk_now, DeskNow, Ends}
use Rattle.control_block.proofs.Prelude.{Inside, Kind, known, OutAndGone, Released}
use Rattle.control_word.specs.State.{kind_of_member}
use Rattle.control_block.specs.Clearing.{Empties}
use Rattle.control_block.specs.Rule.{members_of}
use Rattle.control_block.proofs.leavings.ClearDesks.{room_out}
use Rattle.control_block.proofs.leavings.ClearGone as clear
use Rattle.control_block.proofs.leavings.ClearGone.{IsEmptied}
use Rattle.control_block.proofs.EndingCounts.{few_ending}
use Rattle.control_block.proofs.leavings.GoneDesks as gone
use Rattle.control_block.proofs.leavings.GoneDesks.{Going}
use Rattle.control_block.proofs.desks.OwnCounts.{byte_few}
use Rattle.control_block.proofs.desks.OwnEndings.{ends_in}
use Rattle.control_block.proofs.desks.StoreBlocks.{ending_word}
use Rattle.control_block.proofs.calls.clears.clear.Goals as goal

pub clear-out-requires-clause-word : goal.clear-out-requires-clause-word
clear-out-requires-clause-word g c =
    let used = subst (λ (y : DeskNow g.row.V.Denot). c.args.member < members_of y.shape) (sym c.desk.view_is) c.requires.member.0 in
    let most = c.desk.invariant.limits.members.2 in
    let low : c.args.member < 9 = omega arith in
    let w = ending_word c.desk.inside c.domain.inside.table.shared.table_id c.args.block.0 (7 + c.args.member) c.desk.invariant
    (ap (λ z. z.domain) c.desk.view_is ∙ (c.requires.domain.table ∙ sym (ap (λ z. z.id) c.domain.view_is)))
    (ends_in c.desk.inside c.args.desk.now c.args.block.0 c.requires.ending.0 c.desk.view_is c.requires.ending.1) (omega arith)
    in
    (w.0, low, refl, w.1)

pub clear-out-requires-clause-used : goal.clear-out-requires-clause-used
clear-out-requires-clause-used g c =
    subst (λ (y : DeskNow g.row.V.Denot). c.args.member < members_of y.shape) (sym c.desk.view_is) c.requires.member.0

pub clear-out-requires-clause-kind : goal.clear-out-requires-clause-kind
clear-out-requires-clause-kind g c =
    subst (λ (y : DeskNow g.row.V.Denot). kind_of_member y.shape.owners c.args.member ≡ c.args.kind) (sym c.desk.view_is)
    c.requires.member.1

pub clear-out-requires-clause-ends : goal.clear-out-requires-clause-ends
clear-out-requires-clause-ends g c =
    ends_in c.desk.inside c.args.desk.now c.args.block.0 c.requires.ending.0 c.desk.view_is c.requires.ending.1

pub clear-out-requires-clause-room : goal.clear-out-requires-clause-room
clear-out-requires-clause-room g c = room_out c.desk.inside c.args.block.0 c.desk.invariant
    (ends_in c.desk.inside c.args.desk.now c.args.block.0 c.requires.ending.0 c.desk.view_is c.requires.ending.1)

pub overflow_add-desk : goal.overflow_add-desk
overflow_add-desk g c =
    let d = c.desk.inside in let h = c.desk.invariant in let v = d.seat.me.0 in let few = few_ending v.shape.blocks (known v) v.view.name in
    let most = h.limits.blocks in let one = byte_few c.is_some.result in omega (arith, h.ended, c.from.ensures)

pub put_by_out-requires : goal.put_by_out-requires
put_by_out-requires g c =
    let d = c.desk.inside in let h = c.desk.invariant in let k = c.args.kind in let b = c.args.block.0 in let m = c.args.member in
    let x = c.clear-out.result.0 in let u = c.clear-out.ensures.cleared in let same = c.clear-out.ensures.seat.0 in
    let f : Inside g.row.V.Denot =
    record { seat = c.clear-out.new.seat; allowance = d.allowance; held = d.held; endings = d.endings; store = d.store; shelf_word = d.shelf_word } in
    let ends' = ends_in d c.args.desk.now b c.requires.ending.0 c.desk.view_is c.requires.ending.1 in
    record {
      room = gone.room_gone (clear.going k d f h b m ends' x u.between u.out same c.clear-out.result.1 u.gone refl);
    }

module _ (g : _) (c : goal.After-content-1 g) where
  abbrev d : Inside g.row.V.Denot
  d = c.desk.inside

  abbrev k : Kind
  k = c.args.kind

  abbrev f : Inside g.row.V.Denot
  f = record {
    seat = c.clear-out.new.seat;
    allowance = d.allowance;
    held = d.held;
    endings = d.endings + c.from.result;
    store = c.put_by_out.new.store;
    shelf_word = d.shelf_word;
  }

  abbrev x : CellWord
  x = c.clear-out.result.0

  abbrev r : Released g.row.V.Denot
  r = c.clear-out.result.1

  ends : Ends d.seat.me.0 ((known d.seat.me.0).latest c.args.block.0) c.args.block.0
  ends = ends_in d c.args.desk.now c.args.block.0 c.requires.ending.0 c.desk.view_is c.requires.ending.1

  table : f.seat.table_id ≡ d.seat.table_id
  table = c.clear-out.ensures.seat.0

  o : OutAndGone (λ y. ClearMember ((known d.seat.me.0).latest c.args.block.0) c.args.member y) k d.seat.me.0 x r f.seat.me.0
  o = c.clear-out.ensures.cleared

  -- the desk between the two events
  abbrev t : Inside g.row.V.Denot
  t = clear.t k d f c.desk.invariant c.args.block.0 c.args.member ends x o.between o.out table

  going : Going k t f x.owned x.place r
  going = clear.going k d f c.desk.invariant c.args.block.0 c.args.member ends x o.between o.out table r o.gone refl

  emptied : IsEmptied c.args.desk.now c.args.block.0 c.args.member (cond r.vacant 1 0) (cond (is_some r.value) 1 0) (desk_now f)
  emptied =
      subst (λ (z : DeskNow g.row.V.Denot). IsEmptied z c.args.block.0 c.args.member (cond r.vacant 1 0) (cond (is_some r.value) 1 0) (desk_now f))
      c.desk.view_is
      (clear.emptied k d f c.desk.invariant c.args.block.0 c.args.member ends x o.between o.out table (gone.has_gone going))

pub invariant_of-desk : goal.invariant_of-desk
invariant_of-desk g c =
    let h = c.desk.invariant in let b = c.args.block.0 in let m = c.args.member in let u = o g c in let e = ends g c in let same = table g c in
    gone.desk_gone (going g c) c.clear-out.ensures.seat.2.none c.put_by_out.ensures.items c.put_by_out.ensures.capacity refl
    c.from.result (c.from.ensures ∙ ap bool_byte c.is_some.ensures) refl (clear.room (k g c) (d g c) (f g c) h b m e (x g c) u.between u.out same)
    (clear.within (k g c) (d g c) (f g c) h b m e (x g c) u.between u.out same refl (omega arith) refl)

pub returns-clause-emptied : goal.returns-clause-emptied
returns-clause-emptied g c =
    let u = o g c in
    rw c.handle.ensures
    (subst (λ (z : DeskNow g.row.V.Denot). Empties (k g c) z c.args.block.0 c.args.member (x g c).owned (x g c).place (r g c) (desk_now (f g c)))
    c.desk.view_is
    record {
      between = desk_now (t g c);
      takes = clear.takes (k g c) (d g c) (f g c) c.desk.invariant c.args.block.0 c.args.member (ends g c) (x g c) u.between u.out (table g c);
      lets = gone.lets_go (going g c);
    })

pub returns-clause-kind : goal.returns-clause-kind
returns-clause-kind g c = gone.only (going g c)

pub returns-clause-bag : goal.returns-clause-bag
returns-clause-bag g c = (emptied g c).bag

pub returns-clause-cleared : goal.returns-clause-cleared
returns-clause-cleared g c = (emptied g c).cleared c.requires.ending.0 c.requires.ending.1

pub returns-clause-kept : goal.returns-clause-kept
returns-clause-kept g c = (emptied g c).kept c.requires.ending.0 c.requires.ending.1

pub returns-clause-ending : goal.returns-clause-ending
returns-clause-ending g c = (emptied g c).ending

pub returns-clause-endings : goal.returns-clause-endings
returns-clause-endings g c = (emptied g c).endings

pub returns-clause-desk : goal.returns-clause-desk
returns-clause-desk g c = (emptied g c).desk

pub returns-clause-stock : goal.returns-clause-stock
returns-clause-stock g c = (emptied g c).stock

pub returns-clause-count : goal.returns-clause-count
returns-clause-count g c = (emptied g c).count

pub invariant_of-content : goal.invariant_of-content
invariant_of-content g c =
    let d = c.desk.inside in let u = c.clear-out.ensures.cleared in
    let f : Inside g.row.V.Denot =
    record { seat = c.clear-out.new.seat; allowance = d.allowance; held = d.held; endings = d.endings; store = d.store; shelf_word = d.shelf_word } in
    let ends' = ends_in d c.args.desk.now c.args.block.0 c.requires.ending.0 c.desk.view_is c.requires.ending.1 in
    record {
      proper = rw c.handle.ensures (clear.proper_is c.args.kind d f c.desk.invariant c.args.block.0 c.args.member ends' c.clear-out.result.0 u.between
          u.out c.clear-out.ensures.seat.0);
    }
