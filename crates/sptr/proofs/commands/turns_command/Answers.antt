use Rattle.std.proofs.lemmas.Result.{IfOk-weaker}
use Rattle.sptr.proofs.Lines.{argument_added}
use Rattle.sptr.specs.CommandLine.{script_line, turns_line}
use Rattle.sptr.proofs.commands.turns_command.Goals as goal

pub returns-clause-shape : goal.returns-clause-shape
unfolding script_line turns_line
returns-clause-shape c =
    let listed =
    argument_added c.in_ok-script_command.field-0 c.in_ok-arg.field-0 _ _ _
    (c.in_ok-arg.ensures.shape c.option.ensures.local)
    c.in_ok-script_command.ensures.shape c.option.ensures.rule in
    IfOk-weaker c.arg-2.result _ _ (λ r h.
    argument_added c.in_ok-arg.field-0 r _ _ _ (h.shape c.option-2.ensures.local) listed
    c.option-2.ensures.rule) c.arg-2.ensures
