use Rattle.script_orders.specs.Found.{outcomes_in}
use Rattle.script_orders.proofs.Adding.{told_all}
use Rattle.script_orders.proofs.answers.told.Goals as goal

pub returns-in-Ok-clause-text : goal.returns-in-Ok-clause-text
returns-in-Ok-clause-text c =
    told_all c.args.script.now (outcomes_in c.args.all.now.outcomes.found.entries) c.args.all.now.states
    c.in-Ok.text.items c.in_ok-is_all.is_all c.in-Ok.ensures c.in_ok-is_all.ensures.complete
