use Rattle.std.proofs.Common.{ap, ◌∙◌}
use Rattle.scene_structures.proofs.Prelude.{bag_of, first_out, Weak, without_handle}
use Rattle.scene_structures.proofs.Watches.{endings_both}
use Rattle.scene_structures.proofs.Pruned.{asks_latest}
use Rattle.scene_structures.proofs.Rooms.{holds_still}
use Rattle.scene_structures.proofs.lists.prunes.is_expired.Goals as goal

pub returns-clause-endings : goal.returns-clause-endings
returns-clause-endings g c =
    let d = c.args.desk.now in let m = c.load.new.desk in let n = c.expired-gone.new.desk in let e = c.release_weak.new.desk in
    endings_both d n e (endings_both d m n c.in-Ok.ensures.keeps.endings c.expired-gone.ensures.keeps.endings) c.release_weak.ensures.endings

pub returns-clause-latest : goal.returns-clause-latest
returns-clause-latest g c =
    let w = c.in-Ok.weak in let r = c.release_weak.ensures in let x = c.expired-gone.ensures in
    asks_latest c.args.desk.now c.load.new.desk c.expired-gone.new.desk c.release_weak.new.desk _ w.block w.place c.expired-gone.result r.event.0
    c.in-Ok.ensures.event c.in-Ok.ensures.bag x.expired x.bag r.event.1 r.bag

pub release_weak-requires-clause-holds : goal.release_weak-requires-clause-holds
release_weak-requires-clause-holds g c =
    let w = c.in-Ok.weak in let x = c.expired-gone in
    holds_still Weak c.load.new.desk x.new.desk w.block w.place c.in-Ok.ensures.holds x.ensures.bag x.ensures.held

pub returns-clause-bag : goal.returns-clause-bag
returns-clause-bag g c =
    let w = c.in-Ok.weak in
    c.release_weak.ensures.bag ∙ (ap (without_handle Weak w.block w.place) (c.expired-gone.ensures.bag ∙ c.in-Ok.ensures.bag)
    ∙ first_out Weak w.block w.place (bag_of c.args.desk.now))
