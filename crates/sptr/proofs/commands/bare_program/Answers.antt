use Rattle.std.proofs.Common.{◌∙◌, ap, true}
use Rattle.clap.specs.Words.{App}
use Rattle.clap.specs.Simple.{app_of_fields, on_top}
use Rattle.sptr.specs.CommandLine.{bare}
use Rattle.sptr.proofs.commands.bare_program.Goals as goal

abbrev wanting : App → App
wanting = on_top (λ s. record s { subcommand_required = true })

abbrev versioned : App → App
versioned = on_top (λ s. record s { has_version = true })

pub returns : goal.returns
unfolding bare
returns c =
    ap app_of_fields c.subcommand_required.ensures
    ∙ ap wanting (ap app_of_fields c.version.ensures
    ∙ ap versioned (ap app_of_fields c.about.ensures ∙ c.new.ensures.app))
