use Rattle.std.proofs.Common.{◌≡◌}
use Rattle.shared_map.proofs.Entries.{owner_none, replaced_at}
use Rattle.shared_map.proofs.entry.replace_expired.Goals as goal

pub returns-then-branch-clause-done : goal.returns-then-branch-clause-done
returns-then-branch-clause-done g c =
    let none = owner_none g.D.Domain.opened c.in_ok-held.held _ c.in_ok-owner.ensures.done c.in_default.not-Some in
    replaced_at g.D.Domain.opened c.args.entry.now c.args.new _ _ _ _ _ _ none c.loop.invariant c.if-branch.true
    c.up-place.ensures c.in_ok-compare_exchange_strong.ensures.compared
