use Rattle.std.proofs.Common.{[], List, rules, subst, ◌≡◌, ◌∙◌, ℕ}
use Rattle.script_orders.specs.Coverage.{Covers}
use Rattle.script_orders.specs.Found.{outcomes_in}
use Rattle.script_orders.proofs.Covering.{complete}
use Rattle.script_orders.proofs.coverage.is_complete.Goals as goal

pub returns-clause-complete : goal.returns-clause-complete
returns-clause-complete c = λ is.
    let script = c.args.found.now.script.now in
    let os = outcomes_in c.args.found.now.outcomes.now.found.entries in
    complete c.args.found.now.bytes.now script os c.requires
    (subst (λ (l : List ℕ). Covers script os l) {y = []} (search rules) (c.in_ok-is_all.ensures.covers is))
