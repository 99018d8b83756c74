use Rattle.std.proofs.Common.{◌+◌, cond, ◌∷◌, length, None, sym, refl, ap, ◌∙◌, arith}
use Rattle.control_block.proofs.Prelude.{bag_of, desk_now, endings_of, Finish, Idle, latest_of}
use Rattle.control_block.proofs.Prelude.{leads, opening_of, sound, stock_of, stored}
use Rattle.control_block.proofs.desks.DeskBags.{adds_of, bag_stays, before, ends_still, legal_now}
use Rattle.control_block.proofs.desks.DeskBags.{same_desk}
use Rattle.control_block.proofs.words.Seats.{some_same}
use Rattle.control_block.proofs.desks.OwnCounts.{shrunk_count}
use Rattle.control_block.proofs.desks.DeskSteps.{as_many, came, desk_after}
use Rattle.control_block.proofs.desks.DeskStores.{put_back, room_back, stock_grows}
use Rattle.control_block.proofs.desks.OwnEndings.{clear_in, ending_before, ends_in, ends_value}
use Rattle.control_block.proofs.desks.OwnEndings.{finish_spares}
use Rattle.control_block.proofs.desks.StoreBlocks.{ending_slot, ending_word, finish_block}
use Rattle.control_block.proofs.calls.leaves.finish.Goals as goal

pub finish-value-requires-clause-ends : goal.finish-value-requires-clause-ends
finish-value-requires-clause-ends g c =
    (refl, ends_in c.desk.inside c.args.desk.now c.args.block.0 c.requires.ending.0 c.desk.view_is c.requires.ending.1)

pub finish-value-requires-clause-value : goal.finish-value-requires-clause-value
finish-value-requires-clause-value g c =
    (c.requires.ending.0, ends_value c.desk.inside c.args.desk.now c.args.block.0 c.requires.ending.0 c.desk.view_is c.requires.ending.1)

pub finish-value-requires-clause-clear : goal.finish-value-requires-clause-clear
finish-value-requires-clause-clear g c = clear_in c.desk.inside c.args.desk.now c.args.block.0 c.desk.view_is c.requires.clear

pub finish-value-requires-clause-word : goal.finish-value-requires-clause-word
finish-value-requires-clause-word g c =
    let d = c.desk.inside in let id = c.domain.inside.table.shared.table_id in let b = c.args.block.0 in
    let table = ap (λ z. z.domain) c.desk.view_is ∙ (c.requires.domain.table ∙ sym (ap (λ z. z.id) c.domain.view_is)) in
    let ends = ends_in d c.args.desk.now b c.requires.ending.0 c.desk.view_is c.requires.ending.1 in
    let w = ending_word d id b 1 c.desk.invariant table ends (omega arith) in
    (w.0, ending_slot d id b c.desk.invariant table ends, w.1)

pub put_by-requires : goal.put_by-requires
put_by-requires g c =
    let d = c.desk.inside in let h = c.desk.invariant in let v = d.seat.me.0 in let w = c.finish-value.new.seat.me.0 in
    let s = c.finish-value.ensures in
    let e = Finish (latest_of (desk_now d) c.args.block.0) c.finish-value.result.1 c.requires.ending.0 in
    let a = s.event c.requires.ending.0 (ends_value d c.args.desk.now c.args.block.0 c.requires.ending.0 c.desk.view_is c.requires.ending.1) in
    let t = came v w Idle None e a in
    let same = finish_block d w e t c.args.block.0 h (ends_in c.desk.inside c.args.desk.now c.args.block.0 c.requires.ending.0 c.desk.view_is
    c.requires.ending.1) in
    let stores = ap (λ n. cond c.finish-value.result.1 (stored v.view.name n ∷ t.state.stores) t.state.stores) same in
    record { room = λ is. let r = room_back d h w e t c.args.block.0 c.finish-value.result.1 stores is in omega (arith, r, d.store.ok) }

pub invariant_of-desk : goal.invariant_of-desk
invariant_of-desk g c =
    let d = c.desk.inside in let h = c.desk.invariant in let v = d.seat.me.0 in let w = c.finish-value.new.seat.me.0 in
    let s = c.finish-value.ensures in
    let e = Finish (latest_of (desk_now d) c.args.block.0) c.finish-value.result.1 c.requires.ending.0 in
    let a = s.event c.requires.ending.0 (ends_value d c.args.desk.now c.args.block.0 c.requires.ending.0 c.desk.view_is c.requires.ending.1) in
    let t = came v w Idle None e a in
    let same = finish_block d w e t c.args.block.0 h (ends_in c.desk.inside c.args.desk.now c.args.block.0 c.requires.ending.0 c.desk.view_is
    c.requires.ending.1) in
    let stores = ap (λ n. cond c.finish-value.result.1 (stored v.view.name n ∷ t.state.stores) t.state.stores) same in
    let size = as_many v w e t refl in
    desk_after d _ e h a s.seat.0 s.seat.2 (λ y x. refl) refl
    (put_back d h t.state _ c.args.block c.finish-value.result.1 t.same c.put_by.ensures.items _ stores) c.put_by.ensures.capacity
    (omega (arith, size, h.holding)) (let f = shrunk_count d w _ _ _ a in omega (arith, h.within, h.ended))
    (let f = shrunk_count d w _ _ _ a in omega (arith, h.ended))

pub returns-clause-value : goal.returns-clause-value
returns-clause-value g c = λ x ends.
    some_same _ _ (sym c.finish-value.ensures.value ∙ ends_value c.desk.inside c.args.desk.now c.args.block.0 x c.desk.view_is ends)

pub returns-clause-event : goal.returns-clause-event
returns-clause-event g c = λ x ends.
    adds_of c.desk.inside c.args.desk.now c.finish-value.new.seat.me.0 _ _ (λ z. Finish (latest_of z c.args.block.0) c.finish-value.result.1 x)
    c.desk.view_is c.finish-value.ensures.seat.0
    (c.finish-value.ensures.event x (ends_value c.desk.inside c.args.desk.now c.args.block.0 x c.desk.view_is ends))

pub returns-clause-bag : goal.returns-clause-bag
returns-clause-bag g c =
    let d = c.desk.inside in let h = c.desk.invariant in let v = d.seat.me.0 in let w = c.finish-value.new.seat.me.0 in
    let s = c.finish-value.ensures in
    let e = Finish (latest_of (desk_now d) c.args.block.0) c.finish-value.result.1 c.requires.ending.0 in
    let a = s.event c.requires.ending.0 (ends_value d c.args.desk.now c.args.block.0 c.requires.ending.0 c.desk.view_is c.requires.ending.1) in
    let t = came v w Idle None e a in
    bag_stays d w e h a refl ∙ ap bag_of c.desk.view_is

pub returns-clause-desk : goal.returns-clause-desk
returns-clause-desk g c =
    let d = c.desk.inside in let h = c.desk.invariant in let v = d.seat.me.0 in let w = c.finish-value.new.seat.me.0 in
    let s = c.finish-value.ensures in
    let e = Finish (latest_of (desk_now d) c.args.block.0) c.finish-value.result.1 c.requires.ending.0 in
    let a = s.event c.requires.ending.0 (ends_value d c.args.desk.now c.args.block.0 c.requires.ending.0 c.desk.view_is c.requires.ending.1) in
    let t = came v w Idle None e a in
    same_desk d w e h a _ _ c.args.desk.now c.desk.view_is c.finish-value.ensures.seat.0 (λ s n. refl)

pub overflow_sub-desk : goal.overflow_sub-desk
overflow_sub-desk g c =
    let d = c.desk.inside in let h = c.desk.invariant in let w = c.finish-value.new.seat.me.0 in
    let a = c.finish-value.ensures.event c.requires.ending.0
    (ends_value d c.args.desk.now c.args.block.0 c.requires.ending.0 c.desk.view_is c.requires.ending.1) in
    let f = shrunk_count d w _ _ _ a in omega (arith, h.ended)

pub returns-clause-count : goal.returns-clause-count
returns-clause-count g c =
    let d = c.desk.inside in let w = c.finish-value.new.seat.me.0 in
    let a = c.finish-value.ensures.event c.requires.ending.0
    (ends_value d c.args.desk.now c.args.block.0 c.requires.ending.0 c.desk.view_is c.requires.ending.1) in
    shrunk_count d w _ _ _ a ∙ ap endings_of c.desk.view_is

pub returns-clause-stock : goal.returns-clause-stock
returns-clause-stock g c =
    let d = c.desk.inside in let h = c.desk.invariant in let v = d.seat.me.0 in let w = c.finish-value.new.seat.me.0 in
    let s = c.finish-value.ensures in
    let e = Finish (latest_of (desk_now d) c.args.block.0) c.finish-value.result.1 c.requires.ending.0 in
    let a = s.event c.requires.ending.0 (ends_value d c.args.desk.now c.args.block.0 c.requires.ending.0 c.desk.view_is c.requires.ending.1) in
    let t = came v w Idle None e a in
    let same = finish_block d w e t c.args.block.0 h (ends_in c.desk.inside c.args.desk.now c.args.block.0 c.requires.ending.0 c.desk.view_is
    c.requires.ending.1) in
    let stores = ap (λ n. cond c.finish-value.result.1 (stored v.view.name n ∷ t.state.stores) t.state.stores) same in
    stock_grows d h w e t c.args.block.0 c.finish-value.result.1 stores ∙ ap (λ z. length (stock_of z) + cond c.finish-value.result.1 1 0)
    c.desk.view_is

pub returns-clause-endings : goal.returns-clause-endings
returns-clause-endings g c = λ b x apart ends.
    let d = c.desk.inside in let h = c.desk.invariant in let v = d.seat.me.0 in let w = c.finish-value.new.seat.me.0 in
    let s = c.finish-value.ensures in
    let e = Finish (latest_of (desk_now d) c.args.block.0) c.finish-value.result.1 c.requires.ending.0 in
    let a = s.event c.requires.ending.0 (ends_value d c.args.desk.now c.args.block.0 c.requires.ending.0 c.desk.view_is c.requires.ending.1) in
    let t = came v w Idle None e a in
    let z = opening_of v.shape in let hist = before d w e h a in let now = legal_now d w e h a in
    ends_still d w e h a _ _ b x c.args.desk.now c.desk.view_is
    (λ p. finish_spares z (leads z hist) _ v.view.name b (sound z hist now.0) p _ c.args.block.0 _ _
    (ending_before d w e h a c.args.block.0 (ends_in c.desk.inside c.args.desk.now c.args.block.0 c.requires.ending.0 c.desk.view_is
    c.requires.ending.1)) apart) ends
