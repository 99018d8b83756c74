use Rattle.std.proofs.Common.{◌∙◌, ap}
use Rattle.clap.specs.Words.{found_of}
use Rattle.clap.proofs.WalkLemmas.{first_value-rows}
use Rattle.sptr.specs.Parts.{number_given}
use Rattle.sptr.proofs.command.number_or.Goals as goal

pub returns-in-Some : goal.returns-in-Some
returns-in-Some c =
    c.number_of.ensures ∙ ap (number_given c.args.other)
    (c.in-Some.ensures ∙ first_value-rows (found_of c.args.given.now) c.args.id.now)

pub returns-in-None : goal.returns-in-None
returns-in-None c =
    ap (number_given c.args.other)
    (c.in-None.ensures ∙ first_value-rows (found_of c.args.given.now) c.args.id.now)
