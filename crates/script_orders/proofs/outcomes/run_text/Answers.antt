use Rattle.script_orders.proofs.Adding.{empty_runs}
use Rattle.script_orders.proofs.outcomes.run_text.Goals as goal

pub returns-in-BadTurn-clause-alone : goal.returns-in-BadTurn-clause-alone
returns-in-BadTurn-clause-alone c empty none =
    empty_runs c.args.script.now c.args.list.now c.in-Err.fault _ _ _ c.in-Err.ensures.holds c.in-BadTurn.is empty
