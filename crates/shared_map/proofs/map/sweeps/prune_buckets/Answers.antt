use Rattle.std.proofs.Common.{◌≤◌, length, arith}
use Rattle.shared_map.specs.Sweeps.{Begins, PrunesAt}
use Rattle.shared_map.proofs.Sweeps.{to_ends, to_none, to_on}
use Rattle.shared_map.proofs.map.sweeps.prune_buckets.Goals as goal

pub loop-bucket-init : goal.loop-bucket-init
loop-bucket-init g c =
    let o = g.D.Domain.opened in
    to_none o (λ b. Begins o b.node b.is_entry) (PrunesAt o) c.args.buckets.now tt

pub loop-bucket-preserved : goal.loop-bucket-preserved
loop-bucket-preserved g c =
    let o = g.D.Domain.opened in
    to_on o (λ b. Begins o b.node b.is_entry) (PrunesAt o) c.args.buckets.now c.loop-bucket.buckets
    c.loop-bucket.bucket-index
    tt c.loop-bucket.removed tt c.bucket-item.result c.prune_bucket.new.bucket tt
    c.in_ok-prune_bucket.field-0 c.saturating_add-removed.result c.loop-bucket.invariant (omega arith)
    c.in_ok-prune_bucket.ensures.pruned c.saturating_add-removed.ensures

pub returns-clause-pruned : goal.returns-clause-pruned
returns-clause-pruned g c =
    let o = g.D.Domain.opened in
    let over : length c.loop-bucket.buckets ≤ c.loop-bucket.bucket-index = omega arith in
    to_ends o (λ b. Begins o b.node b.is_entry) (PrunesAt o) c.args.buckets.now c.loop-bucket.buckets
    c.loop-bucket.bucket-index
    tt c.loop-bucket.removed tt c.loop-bucket.invariant over
