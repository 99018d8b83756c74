use Rattle.std.proofs.Common.{◌≡◌, ◌+◌, ◌-◌, cond, is_some, Some, Option, sym, refl, ap, ◌∙◌}
use Rattle.std.proofs.Common.{subst, inl, arith}
use Rattle.control_block.proofs.Prelude.{Block, bool_byte, desk_now, DeskNow, Inside, Kind, known}
use Rattle.control_block.proofs.Prelude.{Lets, Place, Released, slot}
use Rattle.control_block.proofs.cells.CellTrades.{slot_low}
use Rattle.control_block.proofs.desks.DeskBags.{holding_in}
use Rattle.control_block.proofs.desks.DeskSteps.{holds_some, slot_inside, word_inside}
use Rattle.control_block.proofs.EndingCounts.{few_ending}
use Rattle.control_block.proofs.leavings.GoneDesks as gone
use Rattle.control_block.proofs.leavings.GoneDesks.{Going, HasGone}
use Rattle.control_block.proofs.desks.OwnCounts.{byte_few}
use Rattle.control_block.proofs.calls.leaves.leave.Goals as goal

pub leave-released-requires-clause-count : goal.leave-released-requires-clause-count
leave-released-requires-clause-count g c =
    let d = c.desk.inside in let h = c.desk.invariant in let id = c.domain.inside.table.shared.table_id in let of = c.args.of in
    let holds = holding_in d c.args.desk.now of.kind of.place of.block.0 h c.desk.view_is c.requires.holds in
    let table = ap (λ z. z.domain) c.desk.view_is ∙ (c.requires.domain.table ∙ sym (ap (λ z. z.id) c.domain.view_is)) in (
      word_inside d id of.kind _ of.place of.block.0 (slot of.kind) h table holds (slot_low of.kind),
      slot_inside d id of.kind _ of.place of.block.0 h table holds,
    )

pub leave-released-requires-clause-may : goal.leave-released-requires-clause-may
leave-released-requires-clause-may g c =
    let h = c.desk.invariant in let of = c.args.of in
    (refl, inl (h.rests, holding_in c.desk.inside c.args.desk.now of.kind of.place of.block.0 h c.desk.view_is c.requires.holds, refl))

pub overflow_sub-desk : goal.overflow_sub-desk
overflow_sub-desk g c =
    let h = c.desk.invariant in let of = c.args.of in
    let holds = holding_in c.desk.inside c.args.desk.now of.kind of.place of.block.0 h c.desk.view_is c.requires.holds in
    let some' = holds_some c.desk.inside of.kind _ of.place of.block.0 h holds in omega arith

pub overflow_add-desk : goal.overflow_add-desk
overflow_add-desk g c =
    let d = c.desk.inside in let h = c.desk.invariant in let v = d.seat.me.0 in let few = few_ending v.shape.blocks (known v) v.view.name in
    let most = h.limits.blocks in let one = byte_few c.is_some.result in omega (arith, h.ended, c.from.ensures)

pub put_by-requires : goal.put_by-requires
put_by-requires g c =
    let d = c.desk.inside in let h = c.desk.invariant in let of = c.args.of in let s = c.leave-released in
    let holds = holding_in d c.args.desk.now of.kind of.place of.block.0 h c.desk.view_is c.requires.holds in
    let some' = holds_some d of.kind _ of.place of.block.0 h holds in
    let f : Inside g.row.V.Denot =
    record { seat = s.new.seat; allowance = d.allowance; held = d.held - 1; endings = d.endings; store = d.store; shelf_word = d.shelf_word } in
    record {
      room = gone.room_gone {k = of.kind} {t = d} {f = f} {q = Some of.block} {p = of.place} {r = s.result} record {
        right = gone.on_its_way d h;
        gone = (s.ensures.event, s.ensures.kind, s.ensures.value);
        holds = holds;
        table = s.ensures.seat.0;
        held = omega arith;
      };
    }

module _ (g : _) (c : goal.After-put_by g) where
  abbrev d : Inside g.row.V.Denot
  d = c.desk.inside

  abbrev k : Kind
  k = c.args.of.kind

  abbrev b : Block
  b = c.args.of.block

  abbrev p : Option Place
  p = c.args.of.place

  abbrev r : Released g.row.V.Denot
  r = c.leave-released.result

  abbrev f : Inside g.row.V.Denot
  f = record {
    seat = c.leave-released.new.seat;
    allowance = d.allowance;
    held = d.held - 1;
    endings = d.endings + c.from.result;
    store = c.put_by.new.store;
    shelf_word = d.shelf_word;
  }

  held : f.held + 1 ≡ d.held
  held =
      let holds = holding_in d c.args.desk.now k p b.0 c.desk.invariant c.desk.view_is c.requires.holds in
      let some' = holds_some d k _ p b.0 c.desk.invariant holds in omega arith

  going : Going k d f (Some b) p r
  going =
      record {
        right = gone.on_its_way d c.desk.invariant;
        gone = (c.leave-released.ensures.event, c.leave-released.ensures.kind, c.leave-released.ensures.value);
        holds = holding_in d c.args.desk.now k p b.0 c.desk.invariant c.desk.view_is c.requires.holds;
        table = c.leave-released.ensures.seat.0;
        held = held;
      }

  has_gone : HasGone k (Some b) p (cond r.vacant 1 0) (cond (is_some r.value) 1 0) c.args.desk.now (desk_now f)
  has_gone =
      subst (λ (z : DeskNow g.row.V.Denot). HasGone k (Some b) p (cond r.vacant 1 0) (cond (is_some r.value) 1 0) z (desk_now f)) c.desk.view_is
      (gone.has_gone going)

pub invariant_of-desk : goal.invariant_of-desk
invariant_of-desk g c =
    let h = c.desk.invariant in let less = held g c in let one' = byte_few c.is_some.result in
    gone.desk_gone (going g c) c.leave-released.ensures.seat.2 c.put_by.ensures.items c.put_by.ensures.capacity refl
    c.from.result (c.from.ensures ∙ ap bool_byte c.is_some.ensures) refl (omega (arith, h.holding)) (omega (arith, h.within, c.from.ensures))

pub returns-clause-left : goal.returns-clause-left
returns-clause-left g c =
    subst (λ (z : DeskNow g.row.V.Denot). Lets (k g c) z (Some (b g c)) (p g c) (r g c) (desk_now (f g c))) c.desk.view_is
    (gone.lets_go (going g c))

pub returns-clause-bag : goal.returns-clause-bag
returns-clause-bag g c = (has_gone g c).bag

pub returns-clause-held : goal.returns-clause-held
returns-clause-held g c = let less = held g c in let e = ap (λ z. z.held) c.desk.view_is in omega arith

pub returns-clause-desk : goal.returns-clause-desk
returns-clause-desk g c = (has_gone g c).same

pub returns-clause-stock : goal.returns-clause-stock
returns-clause-stock g c = (has_gone g c).stock

pub returns-clause-endings : goal.returns-clause-endings
returns-clause-endings g c = (has_gone g c).still

pub returns-clause-count : goal.returns-clause-count
returns-clause-count g c = (has_gone g c).count
