use Rattle.std.proofs.Common.{◌∙◌, ap}
use Rattle.std.proofs.lemmas.Result.{IfOk-weaker}
use Rattle.clap.specs.Words.{App}
use Rattle.clap.specs.Simple.{app_of_fields}
use Rattle.sptr.proofs.Lines.{argument_added}
use Rattle.sptr.specs.CommandLine.{script_line}
use Rattle.sptr.proofs.commands.script_command.Goals as goal

pub returns-clause-shape : goal.returns-clause-shape
unfolding script_line
returns-clause-shape c =
    IfOk-weaker c.arg.result _ _ (λ r h. argument_added _ r _ _ _
    (h.shape c.file_argument.ensures.local)
    (ap (λ (a : App). a.top) (ap app_of_fields c.about.ensures ∙ c.new.ensures.app))
    c.file_argument.ensures.rule) c.arg.ensures
