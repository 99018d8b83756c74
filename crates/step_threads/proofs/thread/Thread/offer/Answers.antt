use Rattle.std.proofs.Common.{cond, sym, ap, ◌∙◌, subst, inl, inr}
use Rattle.step_threads.proofs.Prelude.{Event, FitsThread, offered, PendingCall, Quiet, Said}
use Rattle.step_threads.proofs.Prelude.{share, silent, Stepped}
use Rattle.step_threads.proofs.StoreFits.{fits_done, share_calm, share_stores}
use Rattle.step_threads.proofs.StoreSteps.{step_offers}
use Rattle.step_threads.proofs.Acting.{can_act}
use Rattle.step_threads.proofs.thread.Thread.offer.Goals as goal

pub returns-clause-fits : goal.returns-clause-fits
returns-clause-fits c =
    let d = c.args.desk in
    let t = c.args.self.now in
    let v = c.args.table.now in
    let on = c.offer-event.ensures in
    subst (λ (h : PendingCall). FitsThread d (record { frame = c.offer-event.new.self; stock = t.stock; pending_call = h }) c.offer-event.new.table)
    (sym c.requires.begins.rest)
    (fits_done share d t v c.offer-event.new.table (offered t.frame.registers.slots.items c.args.name c.args.cell) c.offer-event.new.self
    c.assert_invariant.ensures c.requires.begins.fits c.requires.begins.rest c.requires.begins.none (λ x. share_calm v d x x.kind) (λ x. share_stores v d x
    x.kind) on.table on.on)

pub returns-clause-stepped : goal.returns-clause-stepped
returns-clause-stepped c =
    let t = c.args.self.now in
    let r = c.requires in
    let b = c.offer-event.result in
    let on = c.offer-event.ensures in
    step_offers c.args.desk t c.args.table.now c.args.name c.args.cell r.begins.rest r.begins.none r.begins.within r.act
    (sym c.is_there.ensures ∙ c.if-not-is_there.false) b _ _ _
    (c.says.ensures ∙ ap (λ (s : Said). cond {A = Stepped} b (Event s) (Quiet s)) (c.silent.ensures ∙ ap silent c.statement-statement.ensures))
    on.event on.table on.frame_view r.begins.rest

pub refuse-requires-clause-act : goal.refuse-requires-clause-act
refuse-requires-clause-act c = inr (c.args.name, inl c.requires.act)

pub offer-event-requires-clause-can : goal.offer-event-requires-clause-can
offer-event-requires-clause-can c =
    let r = c.requires in can_act c.args.desk c.args.self.now c.args.table.now r.begins

pub returns-then-not-is_there-clause-stepped : goal.returns-then-not-is_there-clause-stepped
returns-then-not-is_there-clause-stepped c = c.refuse.ensures.stepped

pub returns-then-not-is_there-clause-fits : goal.returns-then-not-is_there-clause-fits
returns-then-not-is_there-clause-fits c = c.refuse.ensures.fits
