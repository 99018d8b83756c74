use Rattle.std.proofs.Common.{rules}
use Rattle.shared_handle.proofs.Beside.{ends_through_swap, left_apart}
use Rattle.atomic_cells.specs.Sites.{shared_cell}
use Rattle.atomic_cells.proofs.shared_at.SharedAt.store.Goals as goal

pub returns-clause-stored : goal.returns-clause-stored
returns-clause-stored g c =
    search rules

-- what ends by it lies in no block in which something was ending in the desk's hands
pub returns-clause-apart : goal.returns-clause-apart
returns-clause-apart g c k ends =
    let t = returns-clause-stored g c in let d = c.args.desk.now in
    left_apart t.between c.store-old.new.desk t.block t.place c.of_parts.result t.leaves k
    (ends_through_swap d t.between k (shared_cell d c.args.self.now.site) _ _ ends t.exchanges)
