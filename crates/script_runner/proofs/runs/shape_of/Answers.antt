use Rattle.script_runner.proofs.Lending.{workers_fit}
use Rattle.script_runner.proofs.runs.shape_of.Goals as goal

pub returns-clause-within : goal.returns-clause-within
returns-clause-within c = workers_fit c.args.blocks c.args.threads c.requires.least c.requires.most c.requires.some c.requires.few
