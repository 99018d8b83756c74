use Rattle.shared_map.specs.Sweeps.{Begins, Sifts}
use Rattle.shared_map.proofs.Sweeps.{swept_ends, swept_none, swept_on}
use Rattle.shared_map.proofs.map.sweeps.sift_bucket.Goals as goal

pub loop-init : goal.loop-init
loop-init g c =
    let o = g.D.Domain.opened in
    swept_none o (λ b. Begins o b.node b.is_entry) (Sifts g.K.Keep.judges o) c.args.bucket.now c.args.keep.now
    c.in_ok-at.at c.in_ok-at.ensures.begins

pub returns-in_default-clause-sifted : goal.returns-in_default-clause-sifted
returns-in_default-clause-sifted g c =
    let o = g.D.Domain.opened in
    swept_ends o (λ b. Begins o b.node b.is_entry) (Sifts g.K.Keep.judges o) c.args.bucket.now c.args.keep.now
    c.loop.at c.loop.keep
    c.loop.removed c.loop.invariant c.in_default.is

pub loop-preserved : goal.loop-preserved
loop-preserved g c =
    let o = g.D.Domain.opened in
    swept_on o (λ b. Begins o b.node b.is_entry) (Sifts g.K.Keep.judges o) c.args.bucket.now c.args.keep.now c.loop.at
    c.loop.keep
    c.loop.removed c.in-Some-at.entry c.in_ok-out.out c.sift.new.keep c.in_ok-at-2.at c.from.result
    c.saturating_add-removed.result c.loop.invariant c.in-Some-at.is c.in_ok-out.ensures.sifted
    c.in_ok-at-2.ensures.led c.from.ensures c.saturating_add-removed.ensures
