use Rattle.std.proofs.Common.{[], ap, ◌∙◌, arith}
use Rattle.scene_structures.proofs.Prelude.{bag_of, iff_false, Owner, Weak, with_handle}
use Rattle.scene_structures.proofs.Prelude.{without_handle}
use Rattle.scene_structures.proofs.Watches.{endings_both}
use Rattle.scene_structures.proofs.Parents.{climb_latest, locks_up, parent_found}
use Rattle.scene_structures.proofs.Kept.{same_call, same_then, granted, open_up}
use Rattle.scene_structures.proofs.Hands.{holds_first}
use Rattle.scene_structures.proofs.Calls.{hands_one}
use Rattle.scene_structures.proofs.Rooms.{far, holds_more}
use Rattle.shared_handle.proofs.Callers.{under_out}
use Rattle.scene_structures.proofs.scene.Scene.parent.Goals as goal

pub returns-clause-endings : goal.returns-clause-endings
returns-clause-endings g c =
    let d = c.args.desk.now in let m = c.load.new.desk in let n = c.lock.new.desk in let e = c.release_weak.new.desk in
    endings_both d n e (endings_both d m n c.in-Ok.ensures.keeps.endings c.in-Ok-lock.ensures.keeps.endings) c.release_weak.ensures.endings

pub returns-clause-latest : goal.returns-clause-latest
returns-clause-latest g c =
    let w = c.in-Ok.ensures in let l = c.in-Ok-lock.ensures in let r = c.release_weak.ensures.event in
    climb_latest c.args.desk.now c.load.new.desk c.lock.new.desk c.release_weak.new.desk _ _ _ _ _ _ r.0 w.event w.bag l.lock l.bag r.1

pub returns-clause-own : goal.returns-clause-own
returns-clause-own g c =
    let w = c.in-Ok.ensures in let l = c.in-Ok-lock.ensures in let r = c.release_weak.ensures.event in
    locks_up c.args.desk.now c.load.new.desk c.lock.new.desk c.release_weak.new.desk c.args.node.now c.in-Ok-lock.owner c.in_ok-up.up _ _ r.0
    c.in_ok-up.ensures w.event l.lock l.handle l.bag r.1

pub returns-clause-parent : goal.returns-clause-parent
returns-clause-parent g c sole =
    let w = c.in-Ok.ensures in let l = c.in-Ok-lock.ensures in let r = c.release_weak.ensures.event in
    parent_found c.args.desk.now c.load.new.desk c.lock.new.desk c.release_weak.new.desk c.args.node.now c.in-Ok-lock.owner c.in_ok-up.up _ _ r.0
    c.in_ok-up.ensures w.event l.lock l.handle l.bag r.1 c.assert_invariant.ensures.legal sole w.holds

pub load-requires-clause-cell : goal.load-requires-clause-cell
load-requires-clause-cell g c = open_up c.args.desk.now c.args.node.now c.in_ok-up.up c.in_ok-up.ensures c.requires.holds

pub release_weak-requires-clause-holds : goal.release_weak-requires-clause-holds
release_weak-requires-clause-holds g c =
    let w = c.in-Ok.weak in let o = c.in-Ok-lock.owner in
    holds_more Weak c.load.new.desk c.lock.new.desk w.block o.block w.place o.place c.in-Ok.ensures.holds c.in-Ok-lock.ensures.bag c.in-Ok-lock.ensures.held

pub returns-clause-may : goal.returns-clause-may
returns-clause-may g c =
    let i = c.in_ok-up.ensures in (iff_false c.is_near_limit.ensures c.if-is_near_limit.false, (i.0, i.1, i.2))

pub returns-clause-bag : goal.returns-clause-bag
returns-clause-bag g c =
    let d = c.args.desk.now in let w = c.in-Ok.weak in let o = c.in-Ok-lock.owner in
    let bag = c.release_weak.ensures.bag ∙ (ap (without_handle Weak w.block w.place)
    (c.in-Ok-lock.ensures.bag ∙ ap (with_handle Owner o.block o.place) c.in-Ok.ensures.bag)
    ∙ under_out Weak w.block w.place Owner o.block o.place (bag_of d)) in
    bag

pub returns-clause-held : goal.returns-clause-held
returns-clause-held g c =
    let one = c.in-Ok.ensures.held in let two = c.in-Ok-lock.ensures.held in let three = c.release_weak.ensures.held in omega arith

pub returns-clause-holds : goal.returns-clause-holds
returns-clause-holds g c =
    let d = c.args.desk.now in let w = c.in-Ok.weak in let o = c.in-Ok-lock.owner in
    let bag = c.release_weak.ensures.bag ∙ (ap (without_handle Weak w.block w.place)
    (c.in-Ok-lock.ensures.bag ∙ ap (with_handle Owner o.block o.place) c.in-Ok.ensures.bag)
    ∙ under_out Weak w.block w.place Owner o.block o.place (bag_of d)) in
    let one = c.in-Ok.ensures.held in let two = c.in-Ok-lock.ensures.held in let three = c.release_weak.ensures.held in
    let e = c.release_weak.new.desk in
    holds_first e (bag_of d) o [] (hands_one d e o c.assert_invariant.ensures.bag bag (omega arith))

pub returns-clause-desk : goal.returns-clause-desk
returns-clause-desk g c =
    same_then (same_call c.in-Ok.ensures.keeps) (same_then (same_call c.in-Ok-lock.ensures.keeps) c.release_weak.ensures.desk)

pub returns-clause-count : goal.returns-clause-count
returns-clause-count g c = c.release_weak.ensures.count ∙ (c.in-Ok-lock.ensures.keeps.count ∙ c.in-Ok.ensures.keeps.count)

pub unreachable-requires : goal.unreachable-requires
unreachable-requires g c =
    let far' = far c.is_near_limit.ensures c.if-is_near_limit.false in
    granted c.args.desk.now c.load.result c.load.ensures.limit (omega arith) c.in_default.not-Ok

pub unreachable-requires-in_default-lock : goal.unreachable-requires-in_default-lock
unreachable-requires-in_default-lock g c =
    let far' = far c.is_near_limit.ensures c.if-is_near_limit.false in
    let one = c.in-Ok.ensures.held in let a = c.in-Ok.ensures.keeps.allowance in
    granted c.load.new.desk c.lock.result c.lock.ensures.limit (omega arith) c.in_default-lock.not-Ok
