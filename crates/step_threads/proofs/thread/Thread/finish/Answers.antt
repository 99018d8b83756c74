use Rattle.std.proofs.Common.{ℕ, ◌<◌, Bool, sym, ap, ◌∙◌, subst}
use Rattle.step_threads.proofs.Prelude.{FitsThread, ghost_after_step, GhostState, TableInvariant}
use Rattle.step_table.specs.declared.memory.ghost_history.AtomicStep.TheVariants as atomic_step
use Rattle.step_threads.proofs.Endings.{room_left}
use Rattle.step_threads.proofs.EndSteps.{fits_finish, fits_finish_not, idle_here}
use Rattle.step_threads.proofs.holding.Ends.{ending_here}
use Rattle.step_threads.proofs.thread.Thread.finish.Goals as goal

pub finish-vacant-requires-clause-idle : goal.finish-vacant-requires-clause-idle
finish-vacant-requires-clause-idle c = idle_here _ c.args.self.now c.args.table.now c.requires.fits c.requires.rest

pub finish-vacant-requires-clause-ending : goal.finish-vacant-requires-clause-ending
finish-vacant-requires-clause-ending c = (ending_here _ c.args.table.now _ c.args.ending c.requires.fits.endings.all c.requires.first).ending

pub finish-vacant-requires-clause-cleared : goal.finish-vacant-requires-clause-cleared
finish-vacant-requires-clause-cleared c = λ m few.
    (ending_here _ c.args.table.now _ c.args.ending c.requires.fits.endings.all c.requires.first).cleared m
    (subst (λ (n : ℕ). m < n) (sym c.requires.behind) few)

pub put-requires : goal.put-requires
put-requires c =
    let v = c.args.table.now in
    let e = c.finish-vacant.ensures.after ∙ ap (λ (r : Bool). ghost_after_step v c.args.desk (atomic_step.Finish c.args.ending.block r)) c.if-not-vacant.false
    in
    let is = ending_here c.args.desk v c.args.self.now.frame.endings.list c.args.ending c.requires.fits.endings.all c.requires.first in
    room_left c.args.desk c.args.self.now v c.args.ending c.assert_invariant.ensures
    (subst (λ (u : GhostState). TableInvariant u) e c.assert_invariant-2.ensures) c.requires.fits c.requires.rest is

pub returns-clause-fits : goal.returns-clause-fits
returns-clause-fits c =
    let t = c.args.self.now in
    let v = c.args.table.now in
    let e = c.finish-vacant.ensures.after ∙ ap (λ (r : Bool). ghost_after_step v c.args.desk (atomic_step.Finish c.args.ending.block r)) c.if-not-vacant.false
    in
    let is = ending_here c.args.desk v t.frame.endings.list c.args.ending c.requires.fits.endings.all c.requires.first in
    subst (λ (u : GhostState). FitsThread c.args.desk (record {
      frame = record t.frame { endings = c.finish.new.self };
      stock =
          c.put.new.self;
      pending_call = t.pending_call;
    }) u)
    (sym e)
    (fits_finish c.args.desk t v c.args.ending c.finish.new.self c.put.new.self c.assert_invariant.ensures c.requires.fits c.requires.rest c.finish.ensures.list
    c.finish.ensures.room is c.requires.empty c.put.ensures.blocks c.put.ensures.room)

pub returns-then-not-vacant-clause-fits : goal.returns-then-not-vacant-clause-fits
returns-then-not-vacant-clause-fits c =
    let t = c.args.self.now in
    let v = c.args.table.now in
    let e = c.finish-vacant.ensures.after ∙ ap (λ (r : Bool). ghost_after_step v c.args.desk (atomic_step.Finish c.args.ending.block r)) c.if-not-vacant.true in
    let is = ending_here c.args.desk v t.frame.endings.list c.args.ending c.requires.fits.endings.all c.requires.first in
    subst (λ (u : GhostState). FitsThread c.args.desk (record {
      frame = record t.frame { endings = c.finish.new.self };
      stock = t.stock;
      pending_call =
          t.pending_call;
    }) u) (sym e)
    (fits_finish_not c.args.desk t v c.args.ending c.finish.new.self c.assert_invariant.ensures c.requires.fits c.requires.rest c.finish.ensures.list
    c.finish.ensures.room is c.requires.empty)
