use Rattle.std.proofs.Common.{◌≡◌, ◌+◌, ◌<◌, Bool, true, false, None, sym, refl, ap, ◌∙◌, subst, arith}
use Rattle.control_block.proofs.Prelude.{CameOut, CellWord, ClearMember, desk_now, DeskNow, empty, Ends}
use Rattle.control_block.proofs.Prelude.{Inside, IsDesk, IsEnding, Kind, known}
use Rattle.control_word.specs.State.{kind_of_member}
use Rattle.control_block.specs.Desks.{IsCleared}
use Rattle.control_block.specs.Rule.{members_of}
use Rattle.control_block.proofs.leavings.ClearDesks.{room_out}
use Rattle.control_block.proofs.leavings.ClearDesks as clear
use Rattle.control_block.proofs.leavings.ClearLooks.{IsLookedAt, looked, looked_at, looked_desk}
use Rattle.control_block.proofs.desks.OwnEndings.{ends_in}
use Rattle.control_block.proofs.desks.StoreBlocks.{ending_word}
use Rattle.control_block.proofs.calls.clears.clear_empty.Goals as goal

pub is_empty-requires-clause-word : goal.is_empty-requires-clause-word
is_empty-requires-clause-word g c =
    let used = subst (λ (y : DeskNow g.row.V.Denot). c.args.member < members_of y.shape) (sym c.desk.view_is) c.requires.member in
    let most = c.desk.invariant.limits.members.2 in
    let low : c.args.member < 9 = omega arith in
    let w = ending_word c.desk.inside c.domain.inside.table.shared.table_id c.args.block.0 (7 + c.args.member) c.desk.invariant
    (ap (λ z. z.domain) c.desk.view_is ∙ (c.requires.domain.table ∙ sym (ap (λ z. z.id) c.domain.view_is)))
    (ends_in c.desk.inside c.args.desk.now c.args.block.0 c.requires.ending.0 c.desk.view_is c.requires.ending.1) (omega arith)
    in
    (w.0, low, refl, w.1)

pub is_empty-requires-clause-room : goal.is_empty-requires-clause-room
is_empty-requires-clause-room g c = room_out c.desk.inside c.args.block.0 c.desk.invariant
    (ends_in c.desk.inside c.args.desk.now c.args.block.0 c.requires.ending.0 c.desk.view_is c.requires.ending.1)

module _ (g : _) (c : goal.After-is_empty g) where
  abbrev d : Inside g.row.V.Denot
  d = c.desk.inside

  abbrev f : Inside g.row.V.Denot
  f = record {
    seat = c.is_empty.new.seat;
    allowance = d.allowance;
    held = d.held;
    endings = d.endings;
    store = d.store;
    shelf_word = d.shelf_word;
  }

  abbrev k : Kind
  k = kind_of_member d.seat.me.0.shape.owners c.args.member

  abbrev x : CellWord
  x = record { owned = None; place = None; taken = 0 }

  ends : Ends d.seat.me.0 ((known d.seat.me.0).latest c.args.block.0) c.args.block.0
  ends = ends_in d c.args.desk.now c.args.block.0 c.requires.ending.0 c.desk.view_is c.requires.ending.1

  out : c.is_empty.result ≡ true → CameOut (λ y. ClearMember ((known d.seat.me.0).latest c.args.block.0) c.args.member y) k d.seat.me.0 x f.seat.me.0
  out e = record { handle = empty k; kind = refl; shows = refl; event = (c.is_empty.ensures.cleared e).0 }

  told : IsLookedAt c.args.desk.now c.args.block.0 c.args.member (desk_now f)
  told =
      subst (λ (y : DeskNow g.row.V.Denot). IsLookedAt y c.args.block.0 c.args.member (desk_now f)) c.desk.view_is
      (looked_at (desk_now d) (desk_now f) c.args.block.0 c.args.member c.is_empty.result
      (λ e. looked k d f c.desk.invariant c.args.block.0 c.args.member ends x (out e) refl c.is_empty.ensures.seat.0 refl)
      (λ e. let me = c.is_empty.ensures.same e in let t = c.is_empty.ensures.seat.0 in
      λ i. record { domain = t i; shape = (me i).0.shape; name = (me i).0.view.name; seen = (me i).0.view.seen; held = d.held }))

pub invariant_of-desk : goal.invariant_of-desk
invariant_of-desk g c =
    looked_desk (k g c) (d g c) (f g c) c.desk.invariant c.args.block.0 c.args.member (ends g c) (x g c) c.is_empty.result (out g c) refl
    c.is_empty.ensures.seat.0 (λ e. (c.is_empty.ensures.cleared e).1) c.is_empty.ensures.same refl refl refl refl refl refl

pub returns-clause-cleared : goal.returns-clause-cleared
returns-clause-cleared g c = λ e.
    let d' = d g c in let f' = f g c in let b = c.args.block.0 in let m = c.args.member in let v = c.requires.ending in
    clear.cleared_out d' c.desk.invariant b m (ends g c) (k g c) f' (x g c) (out g c e) c.is_empty.ensures.seat.0 v.0
    (subst (λ (y : DeskNow g.row.V.Denot). IsEnding y b v.0) (sym c.desk.view_is) v.1)

pub returns-clause-bag : goal.returns-clause-bag
returns-clause-bag g c = (told g c).bag

pub returns-clause-kept : goal.returns-clause-kept
returns-clause-kept g c = (told g c).kept c.requires.ending.0 c.requires.ending.1

pub returns-clause-ending : goal.returns-clause-ending
returns-clause-ending g c = (told g c).ending

pub returns-clause-endings : goal.returns-clause-endings
returns-clause-endings g c = (told g c).endings

pub returns-clause-desk : goal.returns-clause-desk
returns-clause-desk g c = (told g c).desk

pub returns-clause-stock : goal.returns-clause-stock
returns-clause-stock g c = (told g c).stock

pub returns-clause-count : goal.returns-clause-count
returns-clause-count g c = (told g c).count
