use Rattle.std.proofs.Common.{rules}
use Rattle.script_orders.proofs.Distinct.{differ}
use Rattle.script_orders.proofs.outcomes.Outcomes.assert_invariant.Goals as goal

pub returns : goal.returns
returns c = differ _ (λ x y is. search rules) c.args.self.now.found.entries c.len.ensures.unique
