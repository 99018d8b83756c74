use Rattle.std.proofs.Common.{Bool, List, ap, ◌∙◌}
use Rattle.std.specs.List.{list_any}
use Rattle.leak_report.proofs.Prelude.{color_at, color_text, Holding, is_tie, marked}
use Rattle.leak_report.proofs.color.color_of.Goals as goal

pub returns : goal.returns
returns c =
    let held = c.args.found.now.held.items in
    let f = c.args.found.now.findings in
    let tie = is_tie f.kept.items f.knots.items in
    let block = c.from-block.result in
    c.color_word.ensures
    ∙ ap (λ (k : Bool). color_text k c.has_tie.result) c.is_kept.ensures
    ∙ ap (color_text (marked f.kept.items block))
    (c.has_tie.ensures ∙ ap (λ (l : List Holding). list_any tie l) (c.requires.sources block))
    ∙ ap (color_at f held) c.from-block.ensures
