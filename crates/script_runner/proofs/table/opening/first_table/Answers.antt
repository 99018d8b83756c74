use Rattle.script_runner.proofs.Wholes.{begins_whole}
use Rattle.script_runner.proofs.table.opening.first_table.Goals as goal

pub invariant_of-result : goal.invariant_of-result
invariant_of-result g c =
    let r = c.requires.first in let p = c.args.part in
    begins_whole _ c.args.domain.now p.desk p.slots.items p.pile c.requires.home r.begins r.vacant r.bears
