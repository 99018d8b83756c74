use Rattle.shared_handle.proofs.Goings.{left_does}
use Rattle.shared_handle.proofs.Piles.{carries_left, left_elsewhere, left_ends, room_piled}
use Rattle.shared_handle.proofs.drops.drop_shared.Goals as goal

pub put-requires : goal.put-requires
put-requires g c = record {
  room = (let t = c.release-left in let e = t.ensures in let d = c.args.desk.now in
      room_piled c.args.domain.now d t.new.desk c.args.pile.now t.result c.requires.carries e.keeps
      (left_ends d t.new.desk c.args.handle.block c.args.handle.place t.result e.left) c.assert_invariant.ensures);
}

pub returns-clause-carries : goal.returns-clause-carries
returns-clause-carries g c =
    let t = c.release-left in let e = t.ensures in let d = c.args.desk.now in
    carries_left c.args.domain.now d t.new.desk c.args.pile.now c.put.new.self t.result c.requires.carries e.keeps
    (left_ends d t.new.desk c.args.handle.block c.args.handle.place t.result e.left) c.put.ensures.endings c.put.ensures.room

pub returns-clause-elsewhere : goal.returns-clause-elsewhere
returns-clause-elsewhere g c =
    let t = c.release-left in let e = t.ensures in let d = c.args.desk.now in
    left_elsewhere d t.new.desk t.result c.args.pile.now.endings.items c.put.new.self.endings.items e.keeps
    (left_ends d t.new.desk c.args.handle.block c.args.handle.place t.result e.left) e.count c.put.ensures.endings

pub returns-clause-parting : goal.returns-clause-parting
returns-clause-parting g c =
    let t = c.release-left in left_does c.args.desk.now t.new.desk c.args.handle.block c.args.handle.place t.result t.ensures.left
