use Rattle.std.proofs.Common.{sym, refl, subst}
use Rattle.step_table.proofs.Prelude.{ghost_after_step, GhostState, HoldsBag}
use Rattle.step_table.specs.declared.memory.ghost_history.AtomicStep.TheVariants as atomic_step
use Rattle.step_table.proofs.holding.Owning.{holds_look, slot_held}
use Rattle.step_table.proofs.slots.registers.Registers.is_expired.Goals as goal

pub is_expired-requires-clause-held : goal.is_expired-requires-clause-held
is_expired-requires-clause-held c =
    slot_held c.args.desk c.args.self.now.slots.items c.args.table.now c.args.from c.args.pointer c.requires.holds c.requires.from

pub returns-clause-holds : goal.returns-clause-holds
returns-clause-holds c =
    subst (λ (v : GhostState). HoldsBag c.args.desk c.args.self.now.slots.items v) (sym c.is_expired.ensures.after)
    (holds_look c.args.desk c.args.self.now.slots.items c.args.table.now (ghost_after_step c.args.table.now c.args.desk
    (atomic_step.Expired c.args.pointer.kind c.args.pointer.block c.args.pointer.place c.is_expired.result)) refl refl c.requires.holds)
