use Rattle.shared_map.specs.Sweeps.{Begins, PrunesAt}
use Rattle.shared_map.proofs.Sweeps.{swept_ends, swept_none, swept_on}
use Rattle.shared_map.proofs.map.sweeps.prune_bucket.Goals as goal

pub loop-init : goal.loop-init
loop-init g c =
    let o = g.D.Domain.opened in
    swept_none o (λ b. Begins o b.node b.is_entry) (PrunesAt o) c.args.bucket.now tt c.in_ok-at.at
    c.in_ok-at.ensures.begins

pub returns-in_default-clause-pruned : goal.returns-in_default-clause-pruned
returns-in_default-clause-pruned g c =
    let o = g.D.Domain.opened in
    swept_ends o (λ b. Begins o b.node b.is_entry) (PrunesAt o) c.args.bucket.now tt c.loop.at tt
    c.loop.pruned c.loop.invariant c.in_default.is

pub loop-preserved : goal.loop-preserved
loop-preserved g c =
    let o = g.D.Domain.opened in
    swept_on o (λ b. Begins o b.node b.is_entry) (PrunesAt o) c.args.bucket.now tt c.loop.at tt
    c.loop.pruned c.in-Some-at.entry c.in_ok-out.out tt c.in_ok-at-2.at c.from.result
    c.saturating_add-pruned.result c.loop.invariant c.in-Some-at.is c.in_ok-out.ensures.pruned
    c.in_ok-at-2.ensures.led c.from.ensures c.saturating_add-pruned.ensures
