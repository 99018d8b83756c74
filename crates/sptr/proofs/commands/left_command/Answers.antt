use Rattle.std.proofs.lemmas.Result.{IfOk-weaker}
use Rattle.sptr.proofs.Lines.{argument_added}
use Rattle.sptr.specs.CommandLine.{left_line, turns_line}
use Rattle.sptr.proofs.commands.left_command.Goals as goal

pub returns-clause-shape : goal.returns-clause-shape
unfolding turns_line left_line
returns-clause-shape c =
    IfOk-weaker c.arg.result _ _ (λ r h.
    argument_added c.in_ok-turns_command.field-0 r _ _ _ (h.shape c.flag.ensures.local)
    c.in_ok-turns_command.ensures.shape c.flag.ensures.rule) c.arg.ensures
