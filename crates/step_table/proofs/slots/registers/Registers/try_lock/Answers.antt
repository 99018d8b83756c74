use Rattle.std.proofs.Common.{◌≡◌, Bool, true, cond, set, ◌==◌, sym, ap, ◌∙◌, subst, arith, eq-eqb}
use Rattle.step_table.proofs.Prelude.{as_owner, Full, ghost_after_step, GhostState, HoldsBag}
use Rattle.step_table.specs.declared.memory.ghost_history.AtomicStep.TheVariants as atomic_step
use Rattle.step_table.proofs.holding.Locking.{holds_tried}
use Rattle.step_table.proofs.holding.Owning.{has_room, weak_formed, weak_held}
use Rattle.step_table.proofs.slots.registers.Registers.try_lock.Goals as goal

pub try_lock-now-requires-clause-held : goal.try_lock-now-requires-clause-held
try_lock-now-requires-clause-held c =
    weak_held c.args.desk c.args.self.now.slots.items c.args.table.now c.args.from c.args.pointer c.requires.holds c.requires.from

pub try_lock-now-requires-clause-room : goal.try_lock-now-requires-clause-room
try_lock-now-requires-clause-room c =
    has_room c.args.desk c.args.self.now.slots.items c.args.table.now c.args.to c.assert_invariant.ensures c.requires.seat c.requires.holds c.args.self.now.few
    c.requires.inside c.requires.empty

pub returns-clause-holds : goal.returns-clause-holds
returns-clause-holds c =
    let v = c.args.table.now in
    let x = c.args.pointer in
    let z = c.if-now-found.false in
    let e : (c.try_lock-now.result == c.args.found) ≡ true = eq-eqb c.try_lock-now.result c.args.found (omega (arith, z)) in
    let w = ghost_after_step v c.args.desk (atomic_step.Lock x.block x.place true) in
    let t = c.try_lock-now.ensures.after ∙ ap (λ (b : Bool). cond b w v) e in
    subst (λ (u : GhostState). HoldsBag c.args.desk (set c.args.self.now.slots.items c.args.to (Full (as_owner x))) u) (sym t)
    (holds_tried c.args.desk c.args.self.now.slots.items v c.args.to x c.requires.holds
    (weak_formed c.args.desk c.args.self.now.slots.items v c.args.from x c.requires.holds c.requires.from) c.requires.inside c.requires.empty)
