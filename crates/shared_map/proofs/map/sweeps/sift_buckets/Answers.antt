use Rattle.std.proofs.Common.{◌≤◌, length, arith}
use Rattle.shared_map.specs.Sweeps.{Begins, Sifts}
use Rattle.shared_map.proofs.Sweeps.{to_ends, to_none, to_on}
use Rattle.shared_map.proofs.map.sweeps.sift_buckets.Goals as goal

pub loop-bucket-init : goal.loop-bucket-init
loop-bucket-init g c =
    let o = g.D.Domain.opened in
    to_none o (λ b. Begins o b.node b.is_entry) (Sifts g.K.Keep.judges o) c.args.buckets.now c.args.keep.now

pub loop-bucket-preserved : goal.loop-bucket-preserved
loop-bucket-preserved g c =
    let o = g.D.Domain.opened in
    to_on o (λ b. Begins o b.node b.is_entry) (Sifts g.K.Keep.judges o) c.args.buckets.now c.loop-bucket.buckets
    c.loop-bucket.bucket-index
    c.args.keep.now c.loop-bucket.removed c.loop-bucket.keep c.bucket-item.result c.sift_bucket.new.bucket
    c.sift_bucket.new.keep
    c.in_ok-sift_bucket.field-0 c.saturating_add-removed.result c.loop-bucket.invariant (omega arith)
    c.in_ok-sift_bucket.ensures.sifted c.saturating_add-removed.ensures

pub returns-clause-sifted : goal.returns-clause-sifted
returns-clause-sifted g c =
    let o = g.D.Domain.opened in
    let over : length c.loop-bucket.buckets ≤ c.loop-bucket.bucket-index = omega arith in
    to_ends o (λ b. Begins o b.node b.is_entry) (Sifts g.K.Keep.judges o) c.args.buckets.now c.loop-bucket.buckets
    c.loop-bucket.bucket-index
    c.args.keep.now c.loop-bucket.removed c.loop-bucket.keep c.loop-bucket.invariant over
