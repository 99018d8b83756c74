use Rattle.script_stepper.proofs.Beginning.{few_blocks, shape_fits}
use Rattle.script_stepper.proofs.runs.answers.shape_of.Goals as goal

pub returns-clause-within : goal.returns-clause-within
returns-clause-within c =
    shape_fits c.args.blocks c.args.threads c.requires.least c.requires.most c.requires.some c.requires.few

pub returns-clause-few : goal.returns-clause-few
returns-clause-few c = few_blocks c.args.blocks c.args.threads c.requires.most
