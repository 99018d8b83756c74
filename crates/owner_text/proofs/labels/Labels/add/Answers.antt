use Rattle.std.proofs.Common.{◌≡◌, ℕ, List, None, Ok, ap, rules}
use Rattle.owner_text.proofs.Prelude.{find_label, labels_in}
use Rattle.owner_text.proofs.LabelLemmas.{label_numbered}
use Rattle.owner_text.proofs.labels.Labels.add.Goals as goal

pub returns : goal.returns
returns c =
    let none : find_label c.args.label.now (labels_in c.self.inside.table.entries) ≡ None =
    rw (c.self.view_is) c.requires in
    rw (← c.self.view_is)
    (ap (λ (p : ℕ × List (List ℕ)). Ok p)
    (label_numbered c.self.inside.table.entries c.insert.new.self.entries c.in_ok-label.label
    c.args.label.now c.len-number.result
    (search rules) none (search rules) (search rules)))
