use Rattle.scene_structures.proofs.Prelude.{does_both, IsParting, Owner}
use Rattle.scene_structures.proofs.Latest.{held_both, keeps_rest, left_latest}
use Rattle.scene_structures.proofs.Others.{others_both, others_left}
use Rattle.scene_structures.proofs.Orders.{order_left}
use Rattle.scene_structures.proofs.tree.endings.let_go.Goals as goal

pub returns-clause-own : goal.returns-clause-own
returns-clause-own g c =
    let t = c.drop_shared-gone in does_both IsParting c.args.desk.now t.new.desk c.settle.new.desk t.ensures.parting c.settle.ensures.own

pub returns-clause-latest : goal.returns-clause-latest
returns-clause-latest g c =
    let t = c.drop_shared-gone in let d = c.args.desk.now in let x = t.ensures.left in
    held_both d t.new.desk c.settle.new.desk c.settle.ensures.bag
    (keeps_rest d t.new.desk Owner c.args.owner.block c.args.owner.place t.ensures.bag (left_latest d t.new.desk _ _ x.left x.leaves)) c.settle.ensures.latest

pub returns-clause-others : goal.returns-clause-others
returns-clause-others g c =
    let t = c.drop_shared-gone in let e = t.ensures in
    others_both (others_left c.args.desk.now t.new.desk _ _ c.requires.carries.ends e.elsewhere e.keeps.endings) c.settle.ensures.others

pub returns-clause-order : goal.returns-clause-order
returns-clause-order g c =
    let t = c.drop_shared-gone in let s = c.settle.ensures in
    order_left c.args.desk.now t.new.desk c.settle.new.desk _ _ _ _ _ _ s.rounds.0 t.ensures.left s.rounds.1 s.none
