use Rattle.std.proofs.Common.{ℕ, Some, None, sym, refl, ap, ◌∙◌, subst}
use Rattle.step_threads.proofs.Prelude.{Count, FitsThread, is_full, PendingCall, Said}
use Rattle.step_threads.proofs.Prelude.{slot_pointer, task_at, tell}
use Rattle.step_threads.proofs.Acting.{acts_on, can_act}
use Rattle.step_threads.proofs.StoreFits.{fits_done}
use Rattle.step_threads.specs.declared.said.Answer.TheVariants as answer
use Rattle.step_threads.proofs.thread.Thread.count.Goals as goal

pub count-owners-requires-clause-can : goal.count-owners-requires-clause-can
count-owners-requires-clause-can c =
    let r = c.requires in can_act c.args.desk c.args.self.now c.args.table.now r.begins

pub returns-clause-stepped : goal.returns-clause-stepped
returns-clause-stepped c =
    let d = c.args.desk in
    let t = c.args.self.now in
    let v = c.args.table.now in
    let r = c.requires in
    let slots = t.frame.registers.slots.items in
    let said : ℕ → ℕ → Said = λ n m. record { statement = n; answer = Some (answer.Count m); ended = None } in
    let on' = c.count-owners.ensures in
    acts_on d t v r.begins (Count c.args.name) r.act (tell v) (slot_pointer slots c.args.name) c.is_full-event.result
    (said c.statement-statement.result c.count-owners.result) _ _ _ refl refl (λ p. refl) c.says.ensures
    (c.is_full-event.ensures ∙ ap (λ (i : ℕ). is_full (slot_pointer slots i)) c.from.ensures)
    (ap (λ (n : ℕ). said n c.count-owners.result) c.statement-statement.ensures ∙ ap (said (task_at t.frame).statement) on'.told)
    on'.table on'.frame_view r.begins.rest

pub returns-clause-fits : goal.returns-clause-fits
returns-clause-fits c =
    let d = c.args.desk in
    let t = c.args.self.now in
    let v = c.args.table.now in
    let on = c.count-owners.ensures in
    subst (λ (h : PendingCall). FitsThread d (record { frame = c.count-owners.new.self; stock = t.stock; pending_call = h }) c.count-owners.new.table)
    (sym c.requires.begins.rest)
    (fits_done (tell v) d t v c.count-owners.new.table (slot_pointer t.frame.registers.slots.items c.args.name) c.count-owners.new.self
    c.assert_invariant.ensures c.requires.begins.fits c.requires.begins.rest c.requires.begins.none (λ x. refl) (λ x. refl) on.table on.on)
