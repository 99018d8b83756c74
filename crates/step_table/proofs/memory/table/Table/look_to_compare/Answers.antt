use Rattle.std.proofs.Common.{◌≡◌, is_some, Some, sym, ap, ◌∙◌}
use Rattle.step_table.proofs.Prelude.{equivalent, GhostState, handle_told, Look, model_state}
use Rattle.step_table.proofs.Prelude.{OnCell, TableInvariant}
use Rattle.step_table.proofs.tables.Standing.{kept_as, kept_now}
use Rattle.step_table.proofs.tables.Loads.{is_bare, kept_look_differing, left_none, left_same}
use Rattle.step_table.proofs.tables.Loads.{ghost_here}
use Rattle.step_table.proofs.memory.table.Table.look_to_compare.Goals as goal

pub is_same_empty-requires : goal.is_same_empty-requires
is_same_empty-requires c = is_bare c.shown-found.result (sym c.is_some.ensures ∙ c.if-is_some.false)

pub invariant_of-self : goal.invariant_of-self
invariant_of-self c =
    let k : TableInvariant c.args.self.now = kept_now _ _ _ _ c.args.self.now c.self.invariant c.self.view_is in
    let w : c.self.inside.words ≡ c.args.self.now.words = ap (λ (s : GhostState). s.words) c.self.view_is in
    let x : c.self.inside.extent ≡ c.args.self.now.extent = ap (λ (s : GhostState). s.extent) c.self.view_is in
    let e = is_bare c.shown-found.result (sym c.is_some.ensures ∙ c.if-is_some.false) in
    kept_as c.args.self.now c.args.desk (OnCell (Look c.args.cell c.shown-found.result (Some c.args.compared))) _ _ _ _
    (kept_look_differing c.args.self.now c.args.desk c.args.cell c.shown-found.result c.args.compared k c.requires.seat c.requires.idle
    c.requires.open c.requires.expected
    c.requires.hand c.shown-found.ensures e (sym (c.is_same_empty.ensures (model_state c.args.self.now) c.args.cell) ∙ c.if-is_same_empty.false))
    x w c.then-self-inside.ensures

pub returns-then-is_same_empty-clause-after : goal.returns-then-is_same_empty-clause-after
returns-then-is_same_empty-clause-after c =
    left_same (is_some c.shown-found.result.owned)
    (equivalent (handle_told (model_state c.args.self.now) c.args.cell c.shown-found.result)
    (handle_told (model_state c.args.self.now) c.args.cell c.args.compared.expected)) _ _
    (sym (c.is_same_empty.ensures (model_state c.args.self.now) c.args.cell) ∙ c.if-is_same_empty.true)

pub returns-clause-after : goal.returns-clause-after
returns-clause-after c =
    let w : c.self.inside.words ≡ c.args.self.now.words = ap (λ (s : GhostState). s.words) c.self.view_is in
    let x : c.self.inside.extent ≡ c.args.self.now.extent = ap (λ (s : GhostState). s.extent) c.self.view_is in
    ghost_here c.args.self.now c.args.desk (OnCell (Look c.args.cell c.shown-found.result (Some c.args.compared))) _ _ _ _ x w c.then-self-inside.ensures
    ∙ left_none (is_some c.shown-found.result.owned)
    (equivalent (handle_told (model_state c.args.self.now) c.args.cell c.shown-found.result)
    (handle_told (model_state c.args.self.now) c.args.cell c.args.compared.expected)) _ _
    (sym c.is_some.ensures ∙ c.if-is_some.false) (sym (c.is_same_empty.ensures (model_state c.args.self.now) c.args.cell) ∙ c.if-is_same_empty.false)
