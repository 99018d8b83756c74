use Rattle.std.proofs.Common.{◌∙◌}
use Rattle.script_text.proofs.NameLemmas.{names_copied}
use Rattle.script_text.proofs.parts.names.Names.copy.Goals as goal

pub returns : goal.returns
returns c = names_copied c.self.inside.table.entries c.in_ok-table.table.entries
    c.in_ok-table.ensures.cases ∙ c.self.view_is
