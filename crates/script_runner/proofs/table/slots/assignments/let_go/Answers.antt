use Rattle.script_runner.proofs.TablePrelude.{bears_kept}
use Rattle.script_runner.proofs.table.slots.assignments.let_go.Goals as goal

pub returns-after-block-clause-bears : goal.returns-after-block-clause-bears
returns-after-block-clause-bears g c =
    let e = c.release_weak.ensures in
    bears_kept c.args.domain.now c.args.desk.now c.release_weak.new.desk c.args.pile.now c.requires.bears e.desk.domain e.desk.shape e.endings e.count
