use Rattle.std.proofs.Common.{◌≡◌, ap, ◌∙◌}
use Rattle.step_table.proofs.Prelude.{GhostState, Holds, OnCell, TableInvariant}
use Rattle.step_table.proofs.contained.Holding.{held_as, kept_holds}
use Rattle.step_table.proofs.tables.Standing.{kept_as, kept_now}
use Rattle.step_table.proofs.memory.table.Table.holds.Goals as goal

pub invariant_of-self : goal.invariant_of-self
invariant_of-self c =
    let k : TableInvariant c.args.self.now = kept_now _ _ _ _ c.args.self.now c.self.invariant c.self.view_is in
    let w : c.self.inside.words ≡ c.args.self.now.words = ap (λ (s : GhostState). s.words) c.self.view_is in
    let x : c.self.inside.extent ≡ c.args.self.now.extent = ap (λ (s : GhostState). s.extent) c.self.view_is in
    let e = c.is_same_value-holds.ensures
    ∙ held_as c.args.self.now c.args.desk c.args.cell c.shown-found.result c.args.value k c.requires.hand c.shown-found.ensures in
    kept_as c.args.self.now c.args.desk (OnCell (Holds c.args.cell c.args.value c.is_same_value-holds.result)) _ _ _ _
    (kept_holds c.args.self.now c.args.desk c.args.cell c.args.value c.is_same_value-holds.result k c.requires.seat c.requires.idle c.requires.open
    c.requires.hand e)
    x w c.then-self-inside.ensures

pub returns-clause-exact : goal.returns-clause-exact
returns-clause-exact c =
    let k : TableInvariant c.args.self.now = kept_now _ _ _ _ c.args.self.now c.self.invariant c.self.view_is in
    c.is_same_value-holds.ensures
    ∙ held_as c.args.self.now c.args.desk c.args.cell c.shown-found.result c.args.value k c.requires.hand c.shown-found.ensures
