use Rattle.std.proofs.Common.{◌<◌, subst}
use Rattle.shared_handle.proofs.Prelude.{kind_of_member}
use Rattle.control_block.proofs.Latest.{calls_keep_latest}
use Rattle.shared_handle.proofs.AtOnce.{cleared_by_look}
use Rattle.shared_handle.proofs.endings.Ending.clear_empty.Goals as goal

pub clear_empty-requires-clause-member : goal.clear_empty-requires-clause-member
clear_empty-requires-clause-member g c = subst (λ n. c.args.self.now.cleared < n) c.requires.ends.shape c.requires.some

pub returns-clause-clears : goal.returns-clause-clears
returns-clause-clears g c = λ _.
    let d = c.args.desk.now in let x = c.args.self.now in let t = c.clear_empty in
    cleared_by_look (kind_of_member d.shape.owners x.cleared) d t.new.desk x (t.ensures.event c.if-not-clear_empty.false) t.ensures.held t.ensures.stock

pub returns-clause-latest : goal.returns-clause-latest
returns-clause-latest g c =
    let t = c.clear_empty in calls_keep_latest c.args.desk.now _ t.new.desk (t.ensures.event c.if-not-clear_empty.false)
