use Rattle.pointers.proofs.HandCompares.{found_none}
use Rattle.pointers.specs.Beside.{seen_by}
use Rattle.pointers.proofs.context.Context.compare_with_empty.Goals as goal

pub returns-clause-exact : goal.returns-clause-exact
returns-clause-exact g c =
    let n = c.in-Ok in
    found_none c.args.self.now.desk c.empty_owner.new.self.desk c.compare_with-came.new.self.desk c.leave.new.self.desk _ c.args.how.now.weak
    n.hoped.known (seen_by (λ x. x.known) c.args.desired) c.compare_with-came.result.found (λ r. seen_by (λ h. seen_by (λ x. x.known) h) r.0)
    n.ensures.empty n.ensures.count c.leave.ensures.exact c.compare_with-came.ensures.exact
