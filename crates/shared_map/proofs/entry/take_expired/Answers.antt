use Rattle.shared_map.proofs.Sweeps.{prunes_not, prunes_taken}
use Rattle.shared_map.proofs.entry.take_expired.Goals as goal

pub returns-then-branch-clause-pruned : goal.returns-then-branch-clause-pruned
returns-then-branch-clause-pruned g c =
    prunes_taken g.D.Domain.opened c.args.entry.now c.in_ok-held.held c.in_ok-is_expired.field-0 c.take_weak.result
    c.in_ok-held.ensures.done c.in_ok-is_expired.ensures.looked c.if-branch.true c.take_weak.ensures.done

pub returns-clause-pruned : goal.returns-clause-pruned
returns-clause-pruned g c =
    prunes_not g.D.Domain.opened c.args.entry.now c.in_ok-held.held c.in_ok-is_expired.field-0
    c.in_ok-held.ensures.done c.in_ok-is_expired.ensures.looked c.if-branch.false
