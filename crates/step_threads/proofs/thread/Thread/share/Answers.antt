use Rattle.std.proofs.Common.{cond, sym, refl, ap, ◌∙◌, subst}
use Rattle.step_threads.proofs.Prelude.{Event, FitsThread, PendingCall, Quiet, Said, Share, share}
use Rattle.step_threads.proofs.Prelude.{silent, slot_pointer, Stepped}
use Rattle.step_threads.proofs.Acting.{acts_on, can_act}
use Rattle.step_threads.proofs.StoreFits.{fits_done, share_calm, share_stores}
use Rattle.step_threads.proofs.StoreSteps.{share_event}
use Rattle.step_threads.proofs.thread.Thread.share.Goals as goal

pub share-event-requires-clause-can : goal.share-event-requires-clause-can
share-event-requires-clause-can c =
    let r = c.requires in can_act c.args.desk c.args.self.now c.args.table.now r.begins

pub returns-clause-stepped : goal.returns-clause-stepped
returns-clause-stepped c =
    let d = c.args.desk in
    let t = c.args.self.now in
    let v = c.args.table.now in
    let r = c.requires in
    let slots = t.frame.registers.slots.items in
    let b = c.share-event.result in
    let on = c.share-event.ensures in
    acts_on d t v r.begins (Share c.args.name) r.act share (slot_pointer slots c.args.name) b _ _ _ _ refl refl (λ p.
    share_event v p p.kind)
    (c.says.ensures ∙ ap (λ (s : Said). cond {A = Stepped} b (Event s) (Quiet s)) (c.silent.ensures ∙ ap silent c.statement-statement.ensures))
    on.event refl on.table on.frame_view r.begins.rest

pub returns-clause-fits : goal.returns-clause-fits
returns-clause-fits c =
    let d = c.args.desk in
    let t = c.args.self.now in
    let v = c.args.table.now in
    let on = c.share-event.ensures in
    subst (λ (h : PendingCall). FitsThread d (record { frame = c.share-event.new.self; stock = t.stock; pending_call = h }) c.share-event.new.table)
    (sym c.requires.begins.rest)
    (fits_done share d t v c.share-event.new.table (slot_pointer t.frame.registers.slots.items c.args.name) c.share-event.new.self
    c.assert_invariant.ensures c.requires.begins.fits c.requires.begins.rest c.requires.begins.none (λ x. share_calm v d x x.kind) (λ x. share_stores v d x
    x.kind) on.table on.on)
