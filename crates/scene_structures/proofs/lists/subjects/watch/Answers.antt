use Rattle.scene_structures.proofs.Watches.{endings_both, watched_latest, watches}
use Rattle.scene_structures.proofs.Orders.{still_hung}
use Rattle.scene_structures.proofs.lists.subjects.watch.Goals as goal

pub returns-clause-own : goal.returns-clause-own
returns-clause-own g c =
    let x = c.exchange-old in let e = c.in-Ok.ensures in let r = c.release_weak in
    watches c.args.desk.now c.downgrade.new.desk x.new.desk r.new.desk c.args.node.now c.args.subject.now c.in-Ok-member.up _ _ _ _ _
    c.in-Ok-member.ensures c.requires.holds.0 c.requires.holds.1 e.event e.handle.0 e.handle.1 x.ensures.event r.ensures.event.1

pub returns-clause-latest : goal.returns-clause-latest
returns-clause-latest g c =
    let x = c.exchange-old in let e = c.in-Ok.ensures in let r = c.release_weak in
    watched_latest c.args.desk.now c.downgrade.new.desk x.new.desk r.new.desk _ _ _ _ _ _ _ _ _ _ e.event e.handle.0 e.handle.1 e.bag x.ensures.event
    x.ensures.bag r.ensures.event.1 r.ensures.bag

pub returns-clause-endings : goal.returns-clause-endings
returns-clause-endings g c =
    let d = c.args.desk.now in let m = c.downgrade.new.desk in let x = c.exchange-old in let r = c.release_weak in
    endings_both d x.new.desk r.new.desk (endings_both d m x.new.desk c.in-Ok.ensures.keeps.endings x.ensures.keeps.endings) r.ensures.endings

pub returns-clause-still : goal.returns-clause-still
returns-clause-still g c =
    let x = c.exchange-old in let r = c.release_weak in
    still_hung c.args.desk.now c.downgrade.new.desk x.new.desk r.new.desk c.args.subject.now.block x.result.block _ x.result.place r.ensures.event.0 _
    c.in-Ok.ensures.event x.ensures.event tt r.ensures.event.1
