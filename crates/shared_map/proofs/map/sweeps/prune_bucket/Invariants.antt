use Rattle.shared_map.specs.Sweeps.{Begins, PrunesAt}
use Rattle.shared_map.proofs.Sweeps.{Swept}
use Rattle.shared_map.proofs.map.sweeps.prune_bucket.Given as goal

abbrev pub invariant-loop : goal.invariant-loop
invariant-loop g l =
    let o = g.D.Domain.opened in
    Swept o (λ b. Begins o b.node b.is_entry) (PrunesAt o) l.fn.bucket tt l.at tt l.pruned
