use Rattle.std.proofs.Common.{ℕ, List, ◌++◌, ap, ◌∙◌}
use Rattle.step_table.proofs.Filled.{behind_set, filled_set}
use Rattle.step_table.proofs.memory.words.Words.set.Goals as goal

pub returns-then-index-self : goal.returns-then-index-self
returns-then-index-self c =
    let w = c.self.inside in
    behind_set w.len w.words.items w.behind.items c.args.self.now c.self.invariant.few c.self.view_is c.args.index c.args.word
    c.if-index-self.true

pub returns : goal.returns
returns c =
    let w = c.self.inside in
    filled_set w.len c.reach.new.words.items w.behind.items c.args.self.now c.reach.ensures.filled.few
    (ap (λ (l : List ℕ). l ++ w.behind.items) c.reach.ensures.same ∙ c.self.view_is) c.args.index c.args.word c.reach.ensures.there
