use Rattle.std.proofs.Common.{rules}
use Rattle.sptr.specs.CommandLine.{file_word}
use Rattle.sptr.proofs.commands.file_argument.Goals as goal

pub returns-clause-rule : goal.returns-clause-rule
unfolding file_word
returns-clause-rule c = search rules
