use Rattle.std.proofs.Common.{◌≡◌, true, drop, ◌==◌, sym, ◌∙◌, subst, arith, eq-eqb}
use Rattle.step_threads.proofs.Prelude.{cond-true, FitsThread, ghost_after_step, GhostState}
use Rattle.step_table.specs.declared.memory.ghost_history.AtomicStep.TheVariants as atomic_step
use Rattle.step_threads.proofs.EndSteps.{fits_clear, idle_here}
use Rattle.step_threads.proofs.holding.Ends.{ending_here, first_is}
use Rattle.step_threads.proofs.thread.Thread.look_at_member.Goals as goal

pub look_member-requires-clause-idle : goal.look_member-requires-clause-idle
look_member-requires-clause-idle c = idle_here _ c.args.self.now c.args.table.now c.requires.fits c.requires.rest

pub look_member-requires-clause-ending : goal.look_member-requires-clause-ending
look_member-requires-clause-ending c = (ending_here _ c.args.table.now _ c.args.ending c.requires.fits.endings.all c.requires.first).ending

pub returns-clause-fits : goal.returns-clause-fits
returns-clause-fits c =
    let t = c.args.self.now in
    let v = c.args.table.now in
    let d = c.args.desk in
    let e = c.args.ending in
    let is = ending_here d v t.frame.endings.list e c.requires.fits.endings.all c.requires.first in
    let low = c.if-look_member-gt0.false in
    let zero : (c.look_member.result == 0) ≡ true = eq-eqb c.look_member.result 0 (omega (arith, low)) in
    subst (λ (u : GhostState). FitsThread d (record { frame = record t.frame { endings = c.advance.new.self }; stock = t.stock; pending_call = t.pending_call })
    u)
    (sym (c.look_member.ensures.after ∙ cond-true (c.look_member.result == 0) (ghost_after_step v d (atomic_step.Clear e.block e.stage)) v zero))
    (fits_clear d t v e c.advance.new.self (drop 1 t.frame.endings.list) c.assert_invariant.ensures c.requires.fits c.requires.rest
    (first_is t.frame.endings.list e c.requires.first) c.advance.ensures.list c.advance.ensures.room is c.requires.inside c.requires.empty)
