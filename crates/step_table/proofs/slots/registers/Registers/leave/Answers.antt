use Rattle.std.proofs.Common.{set, sym, subst}
use Rattle.step_table.proofs.Prelude.{GhostState, HoldsBag, model_state, plain}
use Rattle.step_table.specs.AtomicSteps.{is_last}
use Rattle.step_table.proofs.holding.Owning.{holds_leave, slot_held}
use Rattle.step_table.proofs.slots.registers.Registers.leave.Goals as goal

pub leave_pointer-last-requires-clause-held : goal.leave_pointer-last-requires-clause-held
leave_pointer-last-requires-clause-held c =
    slot_held c.args.desk c.args.self.now.slots.items c.args.table.now c.args.from c.args.pointer c.requires.holds c.requires.from

pub returns-clause-holds : goal.returns-clause-holds
returns-clause-holds c =
    subst (λ (v : GhostState). HoldsBag c.args.desk (set c.args.self.now.slots.items c.args.from plain) v) (sym c.leave_pointer-last.ensures.after)
    (holds_leave c.args.desk c.args.self.now.slots.items c.args.table.now c.args.from c.args.pointer
    (is_last (model_state c.args.table.now) c.args.pointer) c.requires.holds c.requires.from)
