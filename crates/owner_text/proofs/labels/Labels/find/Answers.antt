use Rattle.std.proofs.Common.{sym, ◌∙◌}
use Rattle.owner_text.proofs.LabelLemmas.{label_place}
use Rattle.owner_text.proofs.labels.Labels.find.Goals as goal

pub returns : goal.returns
returns c =
    rw (← c.self.view_is) (c.get_index_of.ensures.index
    ∙ sym (label_place c.args.label.now c.self.inside.table.entries))
