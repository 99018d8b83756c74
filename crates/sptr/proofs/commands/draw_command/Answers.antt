use Rattle.std.proofs.lemmas.Result.{IfOk-weaker}
use Rattle.sptr.proofs.Lines.{argument_added}
use Rattle.sptr.specs.CommandLine.{draw_line, turns_line}
use Rattle.sptr.proofs.commands.draw_command.Goals as goal

pub returns-clause-shape : goal.returns-clause-shape
unfolding turns_line draw_line
returns-clause-shape c =
    let fine =
    argument_added c.in_ok-turns_command.field-0 c.in_ok-arg.field-0 _ _ _
    (c.in_ok-arg.ensures.shape c.flag.ensures.local) c.in_ok-turns_command.ensures.shape
    c.flag.ensures.rule in
    let page =
    argument_added c.in_ok-arg.field-0 c.in_ok-arg-2.field-0 _ _ _
    (c.in_ok-arg-2.ensures.shape c.flag-2.ensures.local) fine c.flag-2.ensures.rule in
    let from =
    argument_added c.in_ok-arg-2.field-0 c.in_ok-arg-3.field-0 _ _ _
    (c.in_ok-arg-3.ensures.shape c.option.ensures.local) page c.option.ensures.rule in
    IfOk-weaker c.arg-4.result _ _ (λ r h.
    argument_added c.in_ok-arg-3.field-0 r _ _ _ (h.shape c.option-2.ensures.local) from
    c.option-2.ensures.rule) c.arg-4.ensures
