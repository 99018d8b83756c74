use Rattle.std.proofs.Common.{◌∙◌, ap}
use Rattle.std.proofs.lemmas.Result.{IfOk-weaker}
use Rattle.clap.specs.Words.{App}
use Rattle.clap.specs.Simple.{app_of_fields}
use Rattle.sptr.proofs.Lines.{argument_added}
use Rattle.sptr.specs.CommandLine.{owners_line}
use Rattle.sptr.proofs.commands.owners_command.Goals as goal

pub returns-clause-shape : goal.returns-clause-shape
unfolding owners_line
returns-clause-shape c =
    let listed =
    argument_added _ c.in_ok-arg.field-0 _ _ _
    (c.in_ok-arg.ensures.shape c.file_argument.ensures.local)
    (ap (λ (a : App). a.top) (ap app_of_fields c.about.ensures ∙ c.new.ensures.app))
    c.file_argument.ensures.rule in
    IfOk-weaker c.arg-2.result _ _ (λ r h.
    argument_added c.in_ok-arg.field-0 r _ _ _ (h.shape c.flag.ensures.local) listed
    c.flag.ensures.rule) c.arg-2.ensures
