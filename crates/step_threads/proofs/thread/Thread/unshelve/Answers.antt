use Rattle.std.proofs.Common.{Some, None, sym, ap, subst}
use Rattle.step_threads.proofs.Prelude.{cond-false, cond-true, Event, FitsThread, ghost_after_step}
use Rattle.step_threads.proofs.Prelude.{GhostState, model_state, PendingCall, Quiet, Rest}
use Rattle.step_threads.proofs.Prelude.{Unshelve}
use Rattle.step_table.specs.declared.memory.ghost_history.AtomicStep.TheVariants as atomic_step
use Rattle.step_table.specs.declared.memory.shelf.ShelfStep.TheVariants as shelf
use Rattle.step_threads.proofs.ShelfSteps.{fits_moved, room_unshelve, stocks_missed}
use Rattle.step_threads.proofs.ShelfSteps.{stocks_unshelve, shelf_ready, stepped_shelf}
use Rattle.step_threads.proofs.Threads.{resting}
use Rattle.step_threads.proofs.thread.Thread.unshelve.Goals as goal

pub put-requires : goal.put-requires
put-requires c =
    room_unshelve c.args.desk c.args.self.now c.args.table.now c.unshelve-got.new.self c.args.block c.requires.begins.fits c.requires.begins.rest
    c.if-not-got.ensures.after c.assert_invariant-2.ensures

pub returns-then-not-got-clause-fits : goal.returns-then-not-got-clause-fits
returns-then-not-got-clause-fits c =
    let d = c.args.desk in
    let t = c.args.self.now in
    let v = c.args.table.now in
    let b = c.args.block in
    let w = ghost_after_step v d (atomic_step.OnShelf b shelf.Miss) in
    let frame = c.go_on.new.self in
    let holds = c.requires.begins.fits.holds in
    let stocks = stocks_missed d t.stock.blocks t.stock.room v b (resting d t v c.requires.begins.fits c.requires.begins.rest) in
    subst (λ (h : PendingCall). FitsThread d (record { frame = frame; stock = t.stock; pending_call = h }) c.unshelve-got.new.self) (sym c.requires.begins.rest)
    (subst (λ (u : GhostState). FitsThread d (record { frame = frame; stock = t.stock; pending_call = Rest }) u) (sym c.if-not-got.ensures.after)
    (fits_moved d t v b shelf.Miss frame t.stock c.assert_invariant.ensures c.requires.begins.fits c.requires.begins.none
    (c.go_on.ensures.on d w (record { owned = holds.owned; size = holds.size; formed = holds.formed })) stocks))

pub returns-clause-fits : goal.returns-clause-fits
returns-clause-fits c =
    let d = c.args.desk in
    let t = c.args.self.now in
    let v = c.args.table.now in
    let b = c.args.block in
    let w = ghost_after_step v d (atomic_step.OnShelf b shelf.Unshelve) in
    let s = c.put.new.self in
    let frame = c.go_on-2.new.self in
    let holds = c.requires.begins.fits.holds in
    let stocks = stocks_unshelve d t.stock s v b (resting d t v c.requires.begins.fits c.requires.begins.rest) c.put.ensures.blocks c.put.ensures.room in
    subst (λ (h : PendingCall). FitsThread d (record { frame = frame; stock = s; pending_call = h }) c.unshelve-got.new.self) (sym c.requires.begins.rest)
    (subst (λ (u : GhostState). FitsThread d (record { frame = frame; stock = s; pending_call = Rest }) u) (sym c.if-not-got.ensures.after)
    (fits_moved d t v b shelf.Unshelve frame s c.assert_invariant.ensures c.requires.begins.fits c.requires.begins.none
    (c.go_on-2.ensures.on d w (record { owned = holds.owned; size = holds.size; formed = holds.formed })) stocks))

pub go_on-requires-clause-ready : goal.go_on-requires-clause-ready
go_on-requires-clause-ready c =
    let t = c.args.self.now in
    let r = c.requires in
    shelf_ready t.frame (Unshelve c.args.block) r.begins.within r.begins.fits.ready r.act

pub go_on-requires-2-clause-ready : goal.go_on-requires-2-clause-ready
go_on-requires-2-clause-ready c =
    let t = c.args.self.now in
    let r = c.requires in
    shelf_ready t.frame (Unshelve c.args.block) r.begins.within r.begins.fits.ready r.act

pub returns-then-not-got-clause-stepped : goal.returns-then-not-got-clause-stepped
returns-then-not-got-clause-stepped c =
    let t = c.args.self.now in
    let v = c.args.table.now in
    let r = c.requires in
    let b = c.args.block in
    stepped_shelf c.args.desk t _ v _ _ (Unshelve b) None c.statement-statement.result c.statement-statement.ensures r.begins.rest r.begins.none
    r.begins.within r.act
    (cond-false ((model_state v).shelved b.0) (Some b.0) None (sym c.if-not-got.ensures.got))
    (ap Quiet c.silent.ensures) c.if-not-got.ensures.after c.go_on.ensures.frame_view r.begins.rest

pub returns-clause-stepped : goal.returns-clause-stepped
returns-clause-stepped c =
    let t = c.args.self.now in
    let v = c.args.table.now in
    let r = c.requires in
    let b = c.args.block in
    stepped_shelf c.args.desk t _ v _ _ (Unshelve b) (Some b.0) c.statement-statement.result c.statement-statement.ensures r.begins.rest r.begins.none
    r.begins.within r.act
    (cond-true ((model_state v).shelved b.0) (Some b.0) None (sym c.if-not-got.ensures.got))
    (ap Event c.silent-2.ensures) c.if-not-got.ensures.after c.go_on-2.ensures.frame_view r.begins.rest
