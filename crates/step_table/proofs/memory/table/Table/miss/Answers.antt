use Rattle.std.proofs.Common.{◌≡◌, sym, ap, ◌∙◌}
use Rattle.step_table.proofs.Prelude.{GhostState, Miss, OnShelf, TableInvariant}
use Rattle.step_table.proofs.tables.Shelf.{kept_beyond}
use Rattle.step_table.proofs.tables.Standing.{kept_as, kept_now}
use Rattle.step_table.proofs.memory.table.Table.miss.Goals as goal

pub returns-clause-absent : goal.returns-clause-absent
returns-clause-absent c =
    let v = c.args.self.now in
    let k : TableInvariant v = kept_now _ _ _ _ v c.self.invariant c.self.view_is in
    (kept_beyond v c.args.desk c.args.block k c.requires.seat c.requires.idle c.requires.beyond).0

pub invariant_of-self : goal.invariant_of-self
invariant_of-self c =
    let v = c.args.self.now in
    let k : TableInvariant v = kept_now _ _ _ _ v c.self.invariant c.self.view_is in
    let t = kept_beyond v c.args.desk c.args.block k c.requires.seat c.requires.idle c.requires.beyond in
    kept_as v c.args.desk (OnShelf c.args.block Miss) _ _ _ _ t.2
    (ap (λ (s : GhostState). s.extent) c.self.view_is)
    (ap (λ (s : GhostState). s.words) c.self.view_is ∙ sym t.1)
    c.then-self-inside.ensures
