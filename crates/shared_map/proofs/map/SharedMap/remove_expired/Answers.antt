use Rattle.shared_map.specs.Sweeps.{Begins, PrunesAt}
use Rattle.shared_map.proofs.Sweeps.{counts_map}
use Rattle.shared_map.proofs.map.SharedMap.remove_expired.Goals as goal

pub returns-clause-removed : goal.returns-clause-removed
returns-clause-removed g c =
    let o = g.D.Domain.opened in
    counts_map o (λ b. Begins o b.node b.is_entry) (PrunesAt o) c.deref_mut.result.now c.args.self.now.buckets.items
    c.args.self.now.last tt tt tt c.in_ok-removed.removed c.in_ok-prune_bucket.field-0
    c.saturating_add.result c.deref_mut.ensures.value c.in_ok-removed.ensures.pruned
    c.in_ok-prune_bucket.ensures.pruned c.saturating_add.ensures
