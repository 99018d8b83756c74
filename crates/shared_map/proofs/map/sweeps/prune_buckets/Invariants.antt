use Rattle.shared_map.specs.Sweeps.{Begins, PrunesAt}
use Rattle.shared_map.proofs.Sweeps.{SweptTo}
use Rattle.shared_map.proofs.map.sweeps.prune_buckets.Given as goal

abbrev pub invariant-loop-bucket : goal.invariant-loop-bucket
invariant-loop-bucket g l =
    let o = g.D.Domain.opened in
    SweptTo o (λ b. Begins o b.node b.is_entry) (PrunesAt o) l.fn.buckets l.buckets l.bucket-index tt l.removed tt
