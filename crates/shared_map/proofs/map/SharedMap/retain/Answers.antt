use Rattle.shared_map.specs.Sweeps.{Begins, Sifts}
use Rattle.shared_map.proofs.Sweeps.{counts_map}
use Rattle.shared_map.proofs.map.SharedMap.retain.Goals as goal

pub returns-clause-retained : goal.returns-clause-retained
returns-clause-retained g c =
    let o = g.D.Domain.opened in
    counts_map o (λ b. Begins o b.node b.is_entry) (Sifts g.K.Keep.judges o) c.deref_mut.result.now
    c.args.self.now.buckets.items
    c.args.self.now.last c.args.keep.now c.sift_buckets.new.keep c.sift_bucket.new.keep c.in_ok-removed.removed
    c.in_ok-sift_bucket.field-0
    c.saturating_add.result c.deref_mut.ensures.value c.in_ok-removed.ensures.sifted
    c.in_ok-sift_bucket.ensures.sifted c.saturating_add.ensures
