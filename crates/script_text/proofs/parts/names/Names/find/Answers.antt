use Rattle.std.proofs.Common.{sym, ◌∙◌}
use Rattle.script_text.proofs.NameLemmas.{number-find_name, kind-find_name, none_found, both_found}
use Rattle.script_text.proofs.parts.names.Names.find.Goals as goal

pub returns-in_err-number : goal.returns-in_err-number
returns-in_err-number c =
    rw (← c.self.view_is)
    (c.from_residual.ensures
    ∙ sym
    (none_found _
    (number-find_name c.args.name.now c.self.inside.table.entries
    ∙ sym c.in_err-number.ensures.index)))

pub returns : goal.returns
returns c =
    rw (← c.self.view_is)
    (sym (both_found _ c.in_ok-number.number c.in_ok-number.kind.now
    (number-find_name c.args.name.now c.self.inside.table.entries
    ∙ sym c.in_ok-number.ensures.index)
    (kind-find_name c.args.name.now c.self.inside.table.entries
    ∙ sym c.in_ok-number.ensures.value)))
