use Rattle.shared_handle.proofs.Goings.{clearing_does}
use Rattle.shared_handle.proofs.PiledEndings.{stacked_elsewhere, stacked_on}
use Rattle.shared_handle.proofs.Piles.{room_left}
use Rattle.shared_handle.proofs.pile.Pile.clear_once.Goals as goal

pub put-requires : goal.put-requires
put-requires g c = record {
  room = (let t = c.clear_next-left in let e = t.ensures in
      room_left c.args.domain.now c.args.desk.now t.new.desk c.args.self.now c.args.ending.now t.new.self t.result c.requires.stacked
      e.clears e.endings e.beside e.object.0 e.ends e.desk.shape c.assert_invariant.ensures);
}

pub returns-clause-stacked : goal.returns-clause-stacked
returns-clause-stacked g c =
    let t = c.clear_next-left in let e = t.ensures in
    stacked_on c.args.domain.now c.args.desk.now t.new.desk c.args.self.now c.put.new.self c.args.ending.now t.new.self t.result
    c.requires.stacked e.clears e.endings e.beside e.object.0 e.ends e.desk c.put.ensures.endings c.put.ensures.room

pub returns-clause-elsewhere : goal.returns-clause-elsewhere
returns-clause-elsewhere g c =
    let t = c.clear_next-left in let e = t.ensures in
    stacked_elsewhere c.args.desk.now t.new.desk c.args.ending.now t.new.self t.result c.args.self.now.endings.items
    c.put.new.self.endings.items e.clears e.endings e.count e.beside e.object.0 e.ends c.put.ensures.endings

pub returns-clause-clears : goal.returns-clause-clears
returns-clause-clears g c =
    let t = c.clear_next-left in
    record {
      some = c.requires.some;
      left = t.result;
      clears = t.ensures.clears;
      pile = c.put.ensures.endings;
      ending = t.ensures.noted;
      bag = t.ensures.bag;
    }

pub returns-clause-parting : goal.returns-clause-parting
returns-clause-parting g c =
    let t = c.clear_next-left in clearing_does c.args.desk.now t.new.desk c.args.ending.now t.result t.ensures.clears
