use Rattle.script_orders.proofs.Adding.{begun_alone, one_outcome, outcome_told}
use Rattle.script_orders.proofs.all_orders.first_outcome.Goals as goal

pub returns-in-Ok-clause-each : goal.returns-in-Ok-clause-each
returns-in-Ok-clause-each c =
    one_outcome c.args.script.now c.in-Some.text.items c.new-list.result.items _ c.in-Ok.ensures
    (outcome_told c.args.script.now c.as_slice.result.now c.new-list.result.items c.in_ok-told.told
    c.in-Some.text c.in-Some.is c.as_slice.ensures.value c.in_ok-told.ensures.is)

pub returns-in-Ok-clause-first : goal.returns-in-Ok-clause-first
returns-in-Ok-clause-first c =
    begun_alone c.in-Some.text.items c.new-list.result.items _ c.in-Ok.ensures c.new-list.ensures.items
