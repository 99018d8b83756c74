use Rattle.shared_map.proofs.Entries.{inserts_if_expired}
use Rattle.shared_map.proofs.map.SharedMap.insert_weak_if_expired.Goals as goal

pub returns-clause-done : goal.returns-clause-done
returns-clause-done g c =
    inserts_if_expired g.D.Domain.opened c.args.key c.in_ok-entry.entry c.args.new c.replace_expired.result c.in_ok-entry.ensures.entry
    c.replace_expired.ensures.done
