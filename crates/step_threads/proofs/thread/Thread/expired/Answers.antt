use Rattle.std.proofs.Common.{ℕ, Bool, Some, None, sym, refl, ap, ◌∙◌, subst}
use Rattle.step_threads.proofs.Prelude.{Expired, FitsThread, is_full, model_state, PendingCall}
use Rattle.step_threads.proofs.Prelude.{Said, slot_pointer, task_at, tell_expired}
use Rattle.step_threads.proofs.StoreFits.{fits_done}
use Rattle.step_threads.proofs.Acting.{acts_on, can_act}
use Rattle.step_threads.specs.declared.said.Answer.TheVariants as answer
use Rattle.step_threads.proofs.thread.Thread.expired.Goals as goal

pub returns-clause-fits : goal.returns-clause-fits
returns-clause-fits c =
    let d = c.args.desk in
    let t = c.args.self.now in
    let v = c.args.table.now in
    let on = c.is_expired-expired.ensures in
    subst (λ (h : PendingCall). FitsThread d (record { frame = c.is_expired-expired.new.self; stock = t.stock; pending_call = h })
    c.is_expired-expired.new.table)
    (sym c.requires.begins.rest)
    (fits_done (tell_expired (model_state v)) d t v c.is_expired-expired.new.table (slot_pointer t.frame.registers.slots.items c.args.name)
    c.is_expired-expired.new.self
    c.assert_invariant.ensures c.requires.begins.fits c.requires.begins.rest c.requires.begins.none (λ x. refl) (λ x. refl) on.table on.on)

pub is_expired-expired-requires-clause-can : goal.is_expired-expired-requires-clause-can
is_expired-expired-requires-clause-can c =
    let r = c.requires in can_act c.args.desk c.args.self.now c.args.table.now r.begins

pub returns-clause-stepped : goal.returns-clause-stepped
returns-clause-stepped c =
    let d = c.args.desk in
    let t = c.args.self.now in
    let v = c.args.table.now in
    let r = c.requires in
    let slots = t.frame.registers.slots.items in
    let said : ℕ → Bool → Said = λ n m. record { statement = n; answer = Some (answer.Expired m); ended = None } in
    let on' = c.is_expired-expired.ensures in
    acts_on d t v r.begins (Expired c.args.name) r.act (tell_expired (model_state v)) (slot_pointer slots c.args.name)
    c.is_full-event.result
    (said c.statement-statement.result c.is_expired-expired.result) _ _ _ refl refl (λ p. refl) c.says.ensures
    (c.is_full-event.ensures ∙ ap (λ (i : ℕ). is_full (slot_pointer slots i)) c.from.ensures)
    (ap (λ (n : ℕ). said n c.is_expired-expired.result) c.statement-statement.ensures ∙ ap (said (task_at t.frame).statement) on'.exact)
    on'.table on'.frame_view r.begins.rest
