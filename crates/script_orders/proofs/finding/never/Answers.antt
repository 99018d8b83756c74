use Rattle.script_orders.specs.Found.{outcomes_in}
use Rattle.script_orders.proofs.Looking.{never_told}
use Rattle.script_orders.proofs.finding.never.Goals as goal

pub returns-in-Ok-clause-text : goal.returns-in-Ok-clause-text
returns-in-Ok-clause-text c =
    never_told c.args.sought.now.bytes.now c.args.sought.now.line.now c.in-Ok.text.items
    (outcomes_in c.args.outcomes.now.found.entries) c.in_ok-is_all.is_all c.none_tells-is_none.result c.both.result
    c.both.ensures c.in_ok-is_all.ensures.complete c.none_tells-is_none.ensures c.in-Ok.ensures
