use Rattle.script_runner.proofs.WorldStates.{object_shown}
use Rattle.script_runner.proofs.workers.seats.is_full.Goals as goal

pub returns : goal.returns
returns g c m lt = object_shown m c.args.at c.args.table.now c.has_object.result lt c.has_object.ensures.there c.has_object.ensures.none
