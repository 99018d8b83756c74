use Rattle.std.proofs.Common.{ap, ◌∙◌, arith}
use Rattle.scene_structures.proofs.Prelude.{bag_of, first_out, Owner, Weak, without_handle}
use Rattle.scene_structures.proofs.Walks.{asked_latest, asks}
use Rattle.scene_structures.proofs.Others.{others_both, others_call, others_kept}
use Rattle.scene_structures.proofs.Kept.{same_call, same_then, carries_call, carries_over, granted}
use Rattle.scene_structures.proofs.Rooms.{holds_still}
use Rattle.scene_structures.proofs.Orders.{order_both, order_event, order_locks, order_weak}
use Rattle.scene_structures.proofs.lists.walks.ask.Goals as goal

pub returns-clause-latest : goal.returns-clause-latest
returns-clause-latest g c =
    let w = c.in-Ok.weak in let o = c.in-Ok-lock.owner in let f = c.first_field-told in let r = c.release_weak.ensures in
    asked_latest c.args.desk.now c.load.new.desk c.lock.new.desk f.new.desk c.let_go.new.desk c.release_weak.new.desk _ w.block o.block w.place o.place _ _
    c.in-Ok.ensures.event c.in-Ok.ensures.bag c.in-Ok-lock.ensures.lock c.in-Ok-lock.ensures.bag f.ensures.latest f.ensures.bag c.let_go.ensures.latest
    c.let_go.ensures.bag r.event.1 r.bag

pub returns-clause-own : goal.returns-clause-own
returns-clause-own g c =
    let w = c.in-Ok.weak in let f = c.first_field-told in let r = c.release_weak.ensures in
    asks c.args.desk.now c.load.new.desk c.lock.new.desk f.new.desk c.let_go.new.desk c.release_weak.new.desk _ w.block w.place c.in-Ok-lock.owner f.result _
    c.in-Ok.ensures.event c.in-Ok.ensures.bag c.in-Ok-lock.ensures.lock c.in-Ok-lock.ensures.handle f.ensures.own c.let_go.ensures.own r.event.1

pub returns-clause-others : goal.returns-clause-others
returns-clause-others g c =
    let r = c.release_weak in
    others_both (others_call _ c.in-Ok.ensures.keeps)
    (others_both (others_call _ c.in-Ok-lock.ensures.keeps)
    (others_both c.first_field-told.ensures.others
    (others_both c.let_go.ensures.others (others_kept c.let_go.new.desk r.new.desk _ r.ensures.endings r.ensures.count))))

pub returns-clause-order : goal.returns-clause-order
returns-clause-order g c =
    let r = c.release_weak in
    order_both (order_event c.args.desk.now c.load.new.desk _ _ c.in-Ok.ensures.event tt)
    (order_both (order_locks c.load.new.desk c.lock.new.desk c.in-Ok.weak.block c.in-Ok.weak.place _ _ c.in-Ok-lock.ensures.lock)
    (order_both c.first_field-told.ensures.order
    (order_both c.let_go.ensures.order (order_weak c.let_go.new.desk r.new.desk c.in-Ok.weak.block c.in-Ok.weak.place r.ensures.event.0 _ r.ensures.event.1))))

pub first_field-told-requires-clause-carries : goal.first_field-told-requires-clause-carries
first_field-told-requires-clause-carries g c =
    carries_call (carries_call c.requires.carries c.in-Ok.ensures.keeps) c.in-Ok-lock.ensures.keeps

pub first_field-told-requires-clause-room : goal.first_field-told-requires-clause-room
first_field-told-requires-clause-room g c =
    let room = c.requires.room in let one = c.in-Ok.ensures.held in let two = c.in-Ok-lock.ensures.held in
    let a = c.in-Ok.ensures.keeps.allowance in let b = c.in-Ok-lock.ensures.keeps.allowance in omega arith

pub let_go-requires-clause-holds : goal.let_go-requires-clause-holds
let_go-requires-clause-holds g c =
    let o = c.in-Ok-lock.owner in let f = c.first_field-told in
    holds_still Owner c.lock.new.desk f.new.desk o.block o.place c.in-Ok-lock.ensures.holds f.ensures.bag f.ensures.held

pub let_go-requires-clause-carries : goal.let_go-requires-clause-carries
let_go-requires-clause-carries g c = c.first_field-told.ensures.carries

pub release_weak-requires-clause-holds : goal.release_weak-requires-clause-holds
release_weak-requires-clause-holds g c =
    let w = c.in-Ok.weak in let o = c.in-Ok-lock.owner in let f = c.first_field-told.ensures in
    let back = c.let_go.ensures.bag
    ∙ (ap (without_handle Owner o.block o.place) (f.bag ∙ c.in-Ok-lock.ensures.bag) ∙ first_out Owner o.block o.place (bag_of c.load.new.desk)) in
    let two = c.in-Ok-lock.ensures.held in let three = f.held in let four = c.let_go.ensures.held in
    holds_still Weak c.load.new.desk c.let_go.new.desk w.block w.place c.in-Ok.ensures.holds back (omega arith)

pub returns-clause-carries : goal.returns-clause-carries
returns-clause-carries g c = let r = c.release_weak.ensures in carries_over c.let_go.ensures.carries r.desk r.endings

pub returns-clause-none : goal.returns-clause-none
returns-clause-none g c = c.let_go.ensures.none

pub returns-clause-desk : goal.returns-clause-desk
returns-clause-desk g c =
    same_then (same_call c.in-Ok.ensures.keeps)
    (same_then (same_call c.in-Ok-lock.ensures.keeps)
    (same_then c.first_field-told.ensures.desk (same_then c.let_go.ensures.desk c.release_weak.ensures.desk)))

pub returns-clause-held : goal.returns-clause-held
returns-clause-held g c =
    let one = c.in-Ok.ensures.held in let two = c.in-Ok-lock.ensures.held in let three = c.first_field-told.ensures.held in
    let four = c.let_go.ensures.held in let five = c.release_weak.ensures.held in omega arith

pub returns-clause-bag : goal.returns-clause-bag
returns-clause-bag g c =
    let w = c.in-Ok.weak in let o = c.in-Ok-lock.owner in let f = c.first_field-told.ensures in
    let back = c.let_go.ensures.bag
    ∙ (ap (without_handle Owner o.block o.place) (f.bag ∙ c.in-Ok-lock.ensures.bag) ∙ first_out Owner o.block o.place (bag_of c.load.new.desk)) in
    c.release_weak.ensures.bag
    ∙ (ap (without_handle Weak w.block w.place) (back ∙ c.in-Ok.ensures.bag) ∙ first_out Weak w.block w.place (bag_of c.args.desk.now))

pub unreachable-requires : goal.unreachable-requires
unreachable-requires g c =
    let room = c.requires.room in granted c.args.desk.now c.load.result c.load.ensures.limit (omega arith) c.in_default.not-Ok

pub unreachable-requires-in_default-lock : goal.unreachable-requires-in_default-lock
unreachable-requires-in_default-lock g c =
    let room = c.requires.room in let one = c.in-Ok.ensures.held in let a = c.in-Ok.ensures.keeps.allowance in
    granted c.load.new.desk c.lock.result c.lock.ensures.limit (omega arith) c.in_default-lock.not-Ok
