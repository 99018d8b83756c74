use Rattle.std.proofs.Common.{◌∙◌, ap}
use Rattle.std.specs.Prelude.{is_some}
use Rattle.clap.specs.Words.{found_of}
use Rattle.clap.proofs.WalkLemmas.{first_value-rows}
use Rattle.sptr.proofs.Programs.{is_some_text}
use Rattle.sptr.proofs.command.word_of.Goals as goal

pub returns : goal.returns
returns c =
    is_some_text c.get_str.result ∙ ap is_some
    (c.get_str.ensures ∙ first_value-rows (found_of c.args.given.now) c.args.id.now)
