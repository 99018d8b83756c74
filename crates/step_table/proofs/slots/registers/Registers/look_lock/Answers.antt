use Rattle.std.proofs.Common.{◌==◌, sym, ◌∙◌, subst}
use Rattle.step_table.proofs.Prelude.{GhostState, HoldsBag, model_state}
use Rattle.step_table.specs.AtomicSteps.{is_expired}
use Rattle.step_table.proofs.holding.Locking.{holds_looked, looked}
use Rattle.step_table.proofs.holding.Owning.{weak_held}
use Rattle.step_table.proofs.slots.registers.Registers.look_lock.Goals as goal

pub look_lock-requires-clause-held : goal.look_lock-requires-clause-held
look_lock-requires-clause-held c =
    weak_held c.args.desk c.args.self.now.slots.items c.args.table.now c.args.from c.args.pointer c.requires.holds c.requires.from

pub returns-clause-table : goal.returns-clause-table
returns-clause-table c =
    c.look_lock.ensures.after
    ∙ looked c.args.table.now c.args.desk c.args.pointer (c.look_lock.result == 0)
    (is_expired (model_state c.args.table.now) c.args.pointer) c.look_lock.ensures.left

pub returns-clause-holds : goal.returns-clause-holds
returns-clause-holds c =
    subst (λ (v : GhostState). HoldsBag c.args.desk c.args.self.now.slots.items v) (sym c.look_lock.ensures.after)
    (holds_looked c.args.desk c.args.self.now.slots.items c.args.table.now c.args.pointer (c.look_lock.result == 0) c.requires.holds)
