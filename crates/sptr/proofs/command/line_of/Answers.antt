use Rattle.std.proofs.Common.{◌∙◌, ap, inl, inr, map, subst, sym}
use Rattle.clap.specs.Kinds.{IsAmong}
use Rattle.clap.specs.Words.{fault_of, kind_of, subcommand_of}
use Rattle.sptr.specs.CommandLine.{finds_on_page, program}
use Rattle.sptr.proofs.Conflicts.{conflicting, faultless, still_has}
use Rattle.sptr.proofs.command.line_of.Goals as goal

pub returns-clause-kinds : goal.returns-clause-kinds
returns-clause-kinds g c =
    let words = map g.S.AsStr.text c.args.words.now in
    faultless (fault_of program words) (finds_on_page (subcommand_of program words)) c.in-Ok.ensures.kinds
    (sym (ap finds_on_page c.in-Ok.ensures.matches) ∙ sym c.has_conflict.ensures ∙ c.if-has_conflict.false)

pub returns-then-has_conflict-clause-kinds : goal.returns-then-has_conflict-clause-kinds
returns-then-has_conflict-clause-kinds g c =
    let words = map g.S.AsStr.text c.args.words.now in
    inr (subst (IsAmong (kind_of c.in_ok-conflict.field-0))
    (sym (conflicting (fault_of program words) (finds_on_page (subcommand_of program words))
    c.in-Ok.ensures.kinds
    (sym (ap finds_on_page c.in-Ok.ensures.matches) ∙ sym c.has_conflict.ensures ∙ c.if-has_conflict.true)))
    (inl c.in_ok-conflict.ensures))

pub returns-in-Err-clause-kinds : goal.returns-in-Err-clause-kinds
returns-in-Err-clause-kinds g c =
    still_has (fault_of program (map g.S.AsStr.text c.args.words.now)) _ c.in-Err.error c.in-Err.ensures.kinds
