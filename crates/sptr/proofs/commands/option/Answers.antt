use Rattle.std.proofs.Common.{rules}
use Rattle.sptr.specs.CommandLine.{option_rule}
use Rattle.sptr.proofs.commands.option.Goals as goal

pub returns-clause-rule : goal.returns-clause-rule
unfolding option_rule
returns-clause-rule c = search rules
