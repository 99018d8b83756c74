use Rattle.std.proofs.Common.{◌≡◌, sym, ap, ◌∙◌}
use Rattle.step_table.proofs.Prelude.{Extent, GhostState}
use Rattle.step_table.proofs.contained.Told.{shared_is}
use Rattle.step_table.proofs.memory.table.Table.shared_cells.Goals as goal

pub returns-clause-shared : goal.returns-clause-shared
returns-clause-shared c =
    let v = c.args.self.now in
    let x : c.self.inside.extent ≡ v.extent = ap (λ (s : GhostState). s.extent) c.self.view_is in
    ap (λ (e : Extent). e.shape.shared_cells) x ∙ sym (shared_is v)
