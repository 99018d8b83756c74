use Rattle.std.proofs.Common.{◌≡◌, None, Option}
use Rattle.script_orders.specs.declared.all_orders.AllOutcomes.{AllOutcomes}
use Rattle.script_orders.proofs.Adding.{zero_none}
use Rattle.script_orders.proofs.all_orders.outcomes_of.Goals as goal

pub returns-in-Ok-clause-none : goal.returns-in-Ok-clause-none
returns-in-Ok-clause-none c =
    zero_none c.args.most (λ (found : Option AllOutcomes). found ≡ None) c.searched.result c.in-Ok.ensures.some
