use Rattle.std.proofs.Common.{◌≡◌, None, sym, ap, ◌∙◌}
use Rattle.step_table.proofs.Prelude.{GhostState, Look, OnCell, TableInvariant}
use Rattle.step_table.proofs.tables.Standing.{kept_as, kept_now}
use Rattle.step_table.proofs.tables.Loads.{kept_look}
use Rattle.step_table.proofs.memory.table.Table.look_cell.Goals as goal

pub invariant_of-self : goal.invariant_of-self
invariant_of-self c =
    let k : TableInvariant c.args.self.now = kept_now _ _ _ _ c.args.self.now c.self.invariant c.self.view_is in
    let w : c.self.inside.words ≡ c.args.self.now.words = ap (λ (s : GhostState). s.words) c.self.view_is in
    let x : c.self.inside.extent ≡ c.args.self.now.extent = ap (λ (s : GhostState). s.extent) c.self.view_is in
    kept_as c.args.self.now c.args.desk (OnCell (Look c.args.cell c.shown-found.result None)) _ _ _ _
    (kept_look c.args.self.now c.args.desk c.args.cell c.shown-found.result k c.requires.seat c.requires.idle c.requires.open c.shown-found.ensures
    (sym c.is_some.ensures ∙ c.if-is_some.false))
    x w c.then-self-inside.ensures
