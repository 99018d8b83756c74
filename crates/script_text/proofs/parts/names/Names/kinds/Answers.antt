use Rattle.std.proofs.Common.{map, ap, ◌∙◌}
use Rattle.script_text.proofs.Prelude.{NameList}
use Rattle.std.proofs.lemmas.Iterator.{items_from_collect}
use Rattle.std.proofs.lemmas.Iterator.Consumers.{YieldsList-from_copied, YieldsList-from_rest}
use Rattle.script_text.proofs.NameLemmas.{values_of-names_in}
use Rattle.script_text.proofs.parts.names.Names.kinds.Goals as goal

pub returns : goal.returns
returns c =
    items_from_collect _ c.collect.ensures.ran
    (YieldsList-from_copied {s = c.copied.result}
    (YieldsList-from_rest _
    (c.copied.ensures.source ∙ c.values.ensures.rest
    ∙ values_of-names_in c.self.inside.table.entries
    ∙ ap (λ (names : NameList). map (λ name. name.1) names) c.self.view_is)))
