use Rattle.std.proofs.Common.{◌∙◌, ap, map, subst}
use Rattle.std.proofs.lemmas.Result.{IfOk-weaker}
use Rattle.clap.specs.Words.{App, FailsBy, fault_of, is_simple, is_simple_and_free, subcommand_of}
use Rattle.sptr.proofs.Programs.{program_is_free, program_is_simple}
use Rattle.sptr.proofs.command.matches_of.Goals as goal

pub returns-clause-matches : goal.returns-clause-matches
returns-clause-matches g c =
    let is = c.in_ok-command.ensures in
    IfOk-weaker c.try_get_matches_from.result _ _ (λ m h.
    (h (ap is_simple is ∙ program_is_simple)).1
    ∙ ap (λ (a : App). subcommand_of a (map g.S.AsStr.text c.args.words.now)) is)
    c.try_get_matches_from.ensures.matches

pub returns-clause-kinds : goal.returns-clause-kinds
returns-clause-kinds g c =
    let is = c.in_ok-command.ensures in
    subst (λ (a : App). FailsBy (fault_of a (map g.S.AsStr.text c.args.words.now))
    c.try_get_matches_from.result) is
    (c.try_get_matches_from.ensures.kinds (ap is_simple_and_free is ∙ program_is_free))
