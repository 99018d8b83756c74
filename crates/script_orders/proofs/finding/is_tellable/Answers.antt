use Rattle.script_orders.proofs.Telling.{can_by}
use Rattle.script_orders.proofs.finding.is_tellable.Goals as goal

pub returns-clause-can : goal.returns-clause-can
returns-clause-can c =
    can_by c.args.sought.now.bytes.now c.args.sought.now.line.now c.args.sought.now.script.now c.can_tell.result c.requires
    c.can_tell.ensures.is
