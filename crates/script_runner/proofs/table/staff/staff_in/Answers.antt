use Rattle.script_runner.proofs.Needing.{same_needs}
use Rattle.script_runner.proofs.table.staff.staff_in.Goals as goal

pub staff-refused-requires-clause-needs : goal.staff-refused-requires-clause-needs
staff-refused-requires-clause-needs g c κs within =
    same_needs g.W.Work.needs c.args.domain.now.shape c.first_table-table.result.desk.shape c.args.share c.args.workers.now.items
    c.first_table-table.ensures.begins.shape c.requires.needs
