use Rattle.std.proofs.lemmas.Result.{IfOk-weaker}
use Rattle.clap.specs.Words.{app_of}
use Rattle.sptr.proofs.Lines.{command_added}
use Rattle.sptr.proofs.commands.with_command.Goals as goal

pub returns : goal.returns
returns c =
    IfOk-weaker c.subcommand.result _ _ (λ r h. command_added c.args.program c.args.command
    c.in_ok-program.field-0 c.in_ok-command.field-0 (app_of r)
    c.in_ok-program.was c.in_ok-command.was h.shape) c.subcommand.ensures
