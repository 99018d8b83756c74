use Rattle.std.proofs.lemmas.Result.{IfOk-weaker}
use Rattle.sptr.proofs.Lines.{argument_added}
use Rattle.sptr.specs.CommandLine.{orders_line, script_line}
use Rattle.sptr.proofs.commands.orders_command.Goals as goal

pub returns-clause-shape : goal.returns-clause-shape
unfolding script_line orders_line
returns-clause-shape c =
    let find =
    argument_added c.in_ok-script_command.field-0 c.in_ok-arg.field-0 _ _ _
    (c.in_ok-arg.ensures.shape c.option.ensures.local) c.in_ok-script_command.ensures.shape
    c.option.ensures.rule in
    let most =
    argument_added c.in_ok-arg.field-0 c.in_ok-arg-2.field-0 _ _ _
    (c.in_ok-arg-2.ensures.shape c.option-2.ensures.local) find c.option-2.ensures.rule in
    IfOk-weaker c.arg-3.result _ _ (λ r h.
    argument_added c.in_ok-arg-2.field-0 r _ _ _ (h.shape c.flag.ensures.local) most
    c.flag.ensures.rule) c.arg-3.ensures
