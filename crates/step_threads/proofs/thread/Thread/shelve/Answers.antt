use Rattle.std.proofs.Common.{ℕ, Some, None, sym, refl, ap, subst}
use Rattle.step_threads.proofs.Prelude.{Event, FitsThread, ghost_after_step, GhostState}
use Rattle.step_threads.proofs.Prelude.{PendingCall, Quiet, Rest, Shelve, Stocks}
use Rattle.step_table.specs.declared.memory.ghost_history.AtomicStep.TheVariants as atomic_step
use Rattle.step_table.specs.declared.memory.shelf.ShelfStep.TheVariants as shelf
use Rattle.step_threads.proofs.ShelfSteps.{fits_moved, stepped_shelf, stocks_shelve}
use Rattle.step_threads.proofs.Threads.{least_here, least_nowhere, resting}
use Rattle.step_threads.proofs.holding.Storing.{taken_stored}
use Rattle.step_threads.proofs.thread.Thread.shelve.Goals as goal

pub shelve-requires-clause-stored : goal.shelve-requires-clause-stored
shelve-requires-clause-stored c =
    taken_stored c.args.desk c.args.self.now.stock.blocks c.take_least.new.self.blocks c.args.self.now.stock.room c.args.table.now c.in-Some.block
    (resting c.args.desk c.args.self.now c.args.table.now c.requires.begins.fits c.requires.begins.rest) c.in-Some.ensures.least.0

pub returns-in-None-clause-stepped : goal.returns-in-None-clause-stepped
returns-in-None-clause-stepped c =
    let t = c.args.self.now in
    let v = c.args.table.now in
    stepped_shelf c.args.desk t _ v _ _ Shelve None c.statement-statement.result c.statement-statement.ensures c.requires.begins.rest c.requires.begins.none
    c.requires.begins.within c.requires.act (least_nowhere c.args.desk t v c.requires.begins.fits c.requires.begins.rest c.in-None.ensures.least)
    (ap Quiet c.silent.ensures) refl c.go_on.ensures.frame_view c.requires.begins.rest

pub returns-in-Some-clause-stepped : goal.returns-in-Some-clause-stepped
returns-in-Some-clause-stepped c =
    let t = c.args.self.now in
    let v = c.args.table.now in
    let s = c.in-Some.ensures.least in
    stepped_shelf c.args.desk t _ v _ _ Shelve (Some c.in-Some.block.0) c.statement-statement.result c.statement-statement.ensures c.requires.begins.rest
    c.requires.begins.none c.requires.begins.within c.requires.act
    (least_here c.args.desk t v c.in-Some.block c.take_least.new.self c.requires.begins.fits c.requires.begins.rest s.0 s.1)
    (ap Event c.silent-in-Some.ensures) c.shelve.ensures c.go_on-in-Some.ensures.frame_view c.requires.begins.rest

pub returns-in-Some-clause-fits : goal.returns-in-Some-clause-fits
returns-in-Some-clause-fits c =
    let d = c.args.desk in
    let t = c.args.self.now in
    let v = c.args.table.now in
    let b = c.in-Some.block in
    let w = ghost_after_step v d (atomic_step.OnShelf b shelf.Shelve) in
    let s = c.take_least.new.self in
    let frame = c.go_on-in-Some.new.self in
    let holds = c.requires.begins.fits.holds in
    let stocks = stocks_shelve d t.stock.blocks s.blocks t.stock.room v b (resting d t v c.requires.begins.fits c.requires.begins.rest)
    c.in-Some.ensures.least.0 in
    subst (λ (h : PendingCall). FitsThread d (record { frame = frame; stock = s; pending_call = h }) c.shelve.new.self) (sym c.requires.begins.rest)
    (subst (λ (u : GhostState). FitsThread d (record { frame = frame; stock = s; pending_call = Rest }) u) (sym c.shelve.ensures)
    (fits_moved d t v b shelf.Shelve frame s c.assert_invariant.ensures c.requires.begins.fits c.requires.begins.none
    (c.go_on-in-Some.ensures.on d w (record { owned = holds.owned; size = holds.size; formed = holds.formed }))
    (subst (λ (n : ℕ). Stocks d s.blocks n Rest w) (sym c.take_least.ensures.room) stocks)))
