use Rattle.std.proofs.Common.{ℕ, sym, refl, ap, ◌∙◌, subst}
use Rattle.step_table.proofs.Prelude.{ghost_after_step, GhostState, HoldsBag}
use Rattle.step_table.specs.declared.memory.ghost_history.AtomicStep.TheVariants as atomic_step
use Rattle.step_table.proofs.holding.Owning.{holds_look, slot_held}
use Rattle.step_table.proofs.slots.registers.Registers.count.Goals as goal

pub count-requires-clause-held : goal.count-requires-clause-held
count-requires-clause-held c = slot_held c.args.desk c.args.self.now.slots.items c.args.table.now c.args.from c.args.pointer c.requires.holds c.requires.from

pub returns-clause-holds : goal.returns-clause-holds
returns-clause-holds c =
    subst (λ (v : GhostState). HoldsBag c.args.desk c.args.self.now.slots.items v) (sym c.count.ensures.after)
    (holds_look c.args.desk c.args.self.now.slots.items c.args.table.now (ghost_after_step c.args.table.now c.args.desk
    (atomic_step.Count c.args.pointer.kind c.args.pointer.block c.args.pointer.place c.count.result)) refl refl c.requires.holds)

pub returns-clause-told : goal.returns-clause-told
returns-clause-told c = c.count.ensures.told

pub returns-clause-table : goal.returns-clause-table
returns-clause-table c =
    c.count.ensures.after
    ∙ ap (λ (n : ℕ). ghost_after_step c.args.table.now c.args.desk (atomic_step.Count c.args.pointer.kind c.args.pointer.block c.args.pointer.place n))
    c.count.ensures.told
