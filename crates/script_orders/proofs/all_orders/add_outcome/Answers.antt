use Rattle.script_orders.proofs.Adding.{outcome_told, still_first, still_outcomes}
use Rattle.script_orders.proofs.all_orders.add_outcome.Goals as goal

pub returns-in-Ok-clause-each : goal.returns-in-Ok-clause-each
returns-in-Ok-clause-each c all =
    still_outcomes c.args.script.now c.args.list.items c.in-Some.text.items _ _ c.in-Ok.ensures.added
    (outcome_told c.args.script.now c.as_slice.result.now c.args.list.items c.in_ok-told.told
    c.in-Some.text c.in-Some.is c.as_slice.ensures.value c.in_ok-told.ensures.is)
    all

pub returns-in-Ok-clause-first : goal.returns-in-Ok-clause-first
returns-in-Ok-clause-first c = still_first _ _ _ c.in-Ok.ensures.added
