use Rattle.std.proofs.Common.{◌≡◌, [], false}
use Rattle.owner_graph.proofs.Prelude.{marked}
use Rattle.owner_graph.proofs.Homes.{none_weak}
use Rattle.owner_graph.proofs.index.stays.Goals as goal

pub returns-clause-ends : goal.returns-clause-ends
returns-clause-ends c = λ b le.
    none_weak [] c.args.handles.now b (marked c.in_ok-stays.stays.items b ≡ false)
    (c.in_ok-stays.ensures.ends b le)
