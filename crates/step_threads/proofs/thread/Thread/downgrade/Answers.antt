use Rattle.std.proofs.Common.{cond, sym, refl, ap, ◌∙◌, subst}
use Rattle.step_threads.proofs.Prelude.{Downgrade, downgrade, Event, FitsThread, PendingCall}
use Rattle.step_threads.proofs.Prelude.{Quiet, Said, silent, slot_pointer, Stepped}
use Rattle.step_threads.proofs.Acting.{acts_on, can_act}
use Rattle.step_threads.proofs.StoreFits.{fits_done}
use Rattle.step_threads.proofs.thread.Thread.downgrade.Goals as goal

pub downgrade-event-requires-clause-can : goal.downgrade-event-requires-clause-can
downgrade-event-requires-clause-can c =
    let r = c.requires in can_act c.args.desk c.args.self.now c.args.table.now r.begins

pub returns-clause-stepped : goal.returns-clause-stepped
returns-clause-stepped c =
    let d = c.args.desk in
    let t = c.args.self.now in
    let v = c.args.table.now in
    let r = c.requires in
    let slots = t.frame.registers.slots.items in
    let b = c.downgrade-event.result in
    let on = c.downgrade-event.ensures in
    acts_on d t v r.begins (Downgrade c.args.name) r.act downgrade (slot_pointer slots c.args.name) b _ _ _ _ refl refl (λ p. refl)
    (c.says.ensures ∙ ap (λ (s : Said). cond {A = Stepped} b (Event s) (Quiet s)) (c.silent.ensures ∙ ap silent c.statement-statement.ensures))
    on.event refl on.table on.frame_view r.begins.rest

pub returns-clause-fits : goal.returns-clause-fits
returns-clause-fits c =
    let d = c.args.desk in
    let t = c.args.self.now in
    let v = c.args.table.now in
    let on = c.downgrade-event.ensures in
    subst (λ (h : PendingCall). FitsThread d (record { frame = c.downgrade-event.new.self; stock = t.stock; pending_call = h }) c.downgrade-event.new.table)
    (sym
    c.requires.begins.rest)
    (fits_done downgrade d t v c.downgrade-event.new.table (slot_pointer t.frame.registers.slots.items c.args.name) c.downgrade-event.new.self
    c.assert_invariant.ensures c.requires.begins.fits c.requires.begins.rest c.requires.begins.none (λ x. refl) (λ x. refl) on.table on.on)
