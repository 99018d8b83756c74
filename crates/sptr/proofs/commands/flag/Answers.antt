use Rattle.std.proofs.Common.{rules}
use Rattle.sptr.specs.CommandLine.{flag_rule}
use Rattle.sptr.proofs.commands.flag.Goals as goal

pub returns-clause-rule : goal.returns-clause-rule
unfolding flag_rule
returns-clause-rule c = search rules
