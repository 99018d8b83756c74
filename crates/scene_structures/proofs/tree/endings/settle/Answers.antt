use Rattle.scene_structures.proofs.Others.{others_rounds}
use Rattle.scene_structures.proofs.Rounds.{rounds_latest}
use Rattle.scene_structures.proofs.tree.endings.settle.Goals as goal

pub returns-then-not-is_empty-clause-others : goal.returns-then-not-is_empty-clause-others
returns-then-not-is_empty-clause-others g c =
    let e = c.settle.ensures in
    others_rounds c.args.desk.now c.settle.new.desk c.args.pile.now.endings.items c.settle.new.self.endings.items
    e.rounds.0 c.requires.carries.ends e.elsewhere e.rounds.1

pub returns-then-not-is_empty-clause-latest : goal.returns-then-not-is_empty-clause-latest
returns-then-not-is_empty-clause-latest g c =
    let e = c.settle.ensures in
    rounds_latest c.args.desk.now c.settle.new.desk c.args.pile.now.endings.items c.settle.new.self.endings.items
    e.rounds.0 e.parting e.rounds.1
