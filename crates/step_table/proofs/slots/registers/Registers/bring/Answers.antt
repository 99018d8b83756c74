use Rattle.std.proofs.Common.{sym, refl, subst}
use Rattle.step_table.proofs.Prelude.{Bring, ghost_after_step, GhostState, HoldsBag, OnCell}
use Rattle.step_table.proofs.holding.Owning.{holds_look, slot_held}
use Rattle.step_table.proofs.slots.registers.Registers.bring.Goals as goal

pub bring-requires-clause-held : goal.bring-requires-clause-held
bring-requires-clause-held c = slot_held c.args.desk c.args.self.now.slots.items c.args.table.now c.args.from c.args.pointer c.requires.holds c.requires.from

pub returns-clause-holds : goal.returns-clause-holds
returns-clause-holds c =
    let v = c.args.table.now in
    let x = c.args.pointer in
    subst (λ (u : GhostState). HoldsBag c.args.desk c.args.self.now.slots.items u) (sym c.bring.ensures)
    (holds_look c.args.desk c.args.self.now.slots.items v (ghost_after_step v c.args.desk (OnCell (Bring x.kind x.block x.place 256))) refl refl
    c.requires.holds)
