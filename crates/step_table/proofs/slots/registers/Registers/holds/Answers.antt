use Rattle.std.proofs.Common.{sym, refl, ap, ◌∙◌, subst}
use Rattle.step_table.proofs.Prelude.{CellWord, ghost_after_step, GhostState, Holds, HoldsBag}
use Rattle.step_table.proofs.Prelude.{OnCell, slot_value}
use Rattle.step_table.proofs.contained.Holding.{told_held}
use Rattle.step_table.proofs.contained.Offered.{goes_in_hand}
use Rattle.step_table.proofs.holding.Owning.{holds_look}
use Rattle.step_table.proofs.slots.registers.Registers.holds.Goals as goal

pub holds-requires-clause-hand : goal.holds-requires-clause-hand
holds-requires-clause-hand c =
    goes_in_hand c.args.desk c.args.self.now.slots.items c.args.table.now c.args.at c.args.cell c.word-value.result c.assert_invariant.ensures c.requires.holds
    c.requires.kind c.word-value.ensures

pub returns-clause-exact : goal.returns-clause-exact
returns-clause-exact c =
    c.holds.ensures.exact
    ∙ told_held c.args.table.now c.args.cell (slot_value c.args.self.now.slots.items c.args.at) c.word-value.result c.requires.kind c.word-value.ensures

pub returns-clause-table : goal.returns-clause-table
returns-clause-table c =
    c.holds.ensures.after
    ∙ ap (λ (x : CellWord). ghost_after_step c.args.table.now c.args.desk (OnCell (Holds c.args.cell x c.holds.result))) c.word-value.ensures

pub returns-clause-holds : goal.returns-clause-holds
returns-clause-holds c =
    let v = c.args.table.now in
    subst (λ (u : GhostState). HoldsBag c.args.desk c.args.self.now.slots.items u) (sym c.holds.ensures.after)
    (holds_look c.args.desk c.args.self.now.slots.items v (ghost_after_step v c.args.desk (OnCell (Holds c.args.cell c.word-value.result c.holds.result)))
    refl refl c.requires.holds)
