use Rattle.shared_map.specs.Sweeps.{Begins, Sifts}
use Rattle.shared_map.proofs.Sweeps.{Swept}
use Rattle.shared_map.proofs.map.sweeps.sift_bucket.Given as goal

abbrev pub invariant-loop : goal.invariant-loop
invariant-loop g l =
    let o = g.D.Domain.opened in
    Swept o (λ b. Begins o b.node b.is_entry) (Sifts g.K.Keep.judges o) l.fn.bucket l.fn.keep l.at l.keep l.removed
