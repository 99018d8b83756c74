use Rattle.std.proofs.Common.{◌≡◌, ℕ, ◌-◌, List, ◌++◌, replicate, ap, ◌∙◌, rules}
use Rattle.step_table.proofs.Prelude.{padded}
use Rattle.step_table.proofs.Filled.{none_filled}
use Rattle.step_table.proofs.memory.words.Words.new.Goals as goal

pub returns : goal.returns
returns c =
    let behind = c.in_ok-behind.behind.items in
    let zero : behind ≡ replicate (c.args.len - c.args.most) 0 = search rules in
    ap (λ (l : List ℕ). padded c.args.most l ++ behind) c.in_ok-words.ensures.items ∙ none_filled c.args.len c.args.most behind c.requires zero
