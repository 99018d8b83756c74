use Rattle.std.proofs.Common.{ℕ, cond, Some, None, Option, option_map, sym, refl, ap, ◌∙◌, subst}
use Rattle.step_threads.proofs.Prelude.{Answer, Event, FitsThread, frame_view, Handle, is_full}
use Rattle.step_threads.proofs.Prelude.{model_state, on, outside, PendingCall, place_in, Quiet}
use Rattle.step_threads.proofs.Prelude.{Read, Rest, rest, Said, step_of_act, task_at}
use Rattle.step_threads.specs.declared.said.Answer.TheVariants as answer
use Rattle.step_table.specs.AtomicSteps.{field_of, read_atomic_step}
use Rattle.step_threads.proofs.Acting.{acts_as, went_quiet}
use Rattle.step_threads.proofs.Going.{found_inside, stays_ready}
use Rattle.step_threads.proofs.StoreFits.{fits_done}
use Rattle.step_threads.proofs.thread.Thread.read.Goals as goal

pub go_on-requires-clause-ready : goal.go_on-requires-clause-ready
go_on-requires-clause-ready c =
    let t = c.args.self.now in
    let r = c.requires in
    stays_ready t.frame (Read c.args.name) r.begins.within r.begins.fits.ready r.act (λ q. q) refl

pub go_on-requires-2-clause-ready : goal.go_on-requires-2-clause-ready
go_on-requires-2-clause-ready c =
    let t = c.args.self.now in
    let r = c.requires in
    stays_ready t.frame (Read c.args.name) r.begins.within r.begins.fits.ready r.act (λ q. q) refl

pub returns-in_default-clause-stepped : goal.returns-in_default-clause-stepped
returns-in_default-clause-stepped c =
    let d = c.args.desk in
    let t = c.args.self.now in
    let v = c.args.table.now in
    let r = c.requires in
    let slots = t.frame.registers.slots.items in
    let k = c.args.name in
    let tell : ℕ → Answer → Said = λ n a. record { statement = n; answer = Some a; ended = None } in
    let n = (task_at t.frame).statement in
    let at = (found_inside slots c.args.name c.from-from.result c.inside.result (None) c.inside.ensures c.from-from.ensures c.in_default.is) in
    let says = λ (o : Option Handle).
    tell n (cond (is_full o) (answer.Read (on (field_of (model_state v)) 0 o)) (outside (place_in slots k))) in
    acts_as d t v r.begins (Read k) r.act None Rest _ _ _
    (ap (λ (o : Option Handle). step_of_act v d (frame_view t.frame) (task_at t.frame).statement (rest t.frame) (Read k) (option_map (read_atomic_step
    (model_state v)) o) Rest) at) refl
    (ap (λ (s : Said). Quiet s) (c.tells.ensures ∙ ap (λ (i : ℕ). tell i c.outside-answer.result) c.statement-statement.ensures
    ∙ ap (tell n) (c.outside-answer.ensures ∙ ap outside (c.place.ensures ∙ ap (place_in slots) c.from-from.ensures)) ∙ sym (ap says at))) refl
    c.go_on.ensures.frame_view r.begins.rest

pub returns-in_default-clause-fits : goal.returns-in_default-clause-fits
returns-in_default-clause-fits c =
    let d = c.args.desk in
    let t = c.args.self.now in
    let v = c.args.table.now in
    let r = c.requires in
    let slots = t.frame.registers.slots.items in
    went_quiet d t v r.begins c.go_on.new.self (c.go_on.ensures.on d v r.begins.fits.holds)

pub returns-clause-stepped : goal.returns-clause-stepped
returns-clause-stepped c =
    let d = c.args.desk in
    let t = c.args.self.now in
    let v = c.args.table.now in
    let r = c.requires in
    let slots = t.frame.registers.slots.items in
    let k = c.args.name in
    let tell : ℕ → Answer → Said = λ n a. record { statement = n; answer = Some a; ended = None } in
    let p = c.in-Some.pointer in
    let n = (task_at t.frame).statement in
    let at = (found_inside slots c.args.name c.from-from.result c.inside.result (Some p) c.inside.ensures c.from-from.ensures c.in-Some.is) in
    let says = λ (o : Option Handle).
    tell n (cond (is_full o) (answer.Read (on (field_of (model_state v)) 0 o)) (outside (place_in slots k))) in
    acts_as d t v r.begins (Read k) r.act (Some (read_atomic_step (model_state v) p)) Rest _ _ _
    (ap (λ (o : Option Handle). step_of_act v d (frame_view t.frame) (task_at t.frame).statement (rest t.frame) (Read k) (option_map (read_atomic_step
    (model_state v)) o) Rest) at) refl
    (ap (λ (s : Said). Event s) (c.tells-2.ensures ∙ ap (λ (i : ℕ). tell i (answer.Read c.read-value.result)) c.statement-statement.ensures
    ∙ ap (λ (i : ℕ). tell n (answer.Read i)) c.read-value.ensures.value ∙ sym (ap says at))) c.read-value.ensures.table c.go_on-2.ensures.frame_view
    r.begins.rest

pub returns-clause-fits : goal.returns-clause-fits
returns-clause-fits c =
    let d = c.args.desk in
    let t = c.args.self.now in
    let v = c.args.table.now in
    let r = c.requires in
    let slots = t.frame.registers.slots.items in
    let after = c.go_on-2.new.self in
    let w = c.read-value.new.table in
    subst (λ (h : PendingCall). FitsThread d (record { frame = after; stock = t.stock; pending_call = h }) w) (sym r.begins.rest)
    (fits_done (read_atomic_step (model_state v)) d t v w (Some c.in-Some.pointer) after c.assert_invariant.ensures r.begins.fits r.begins.rest
    r.begins.none (λ x. refl) (λ x. refl)
    c.read-value.ensures.table (c.go_on-2.ensures.on d w c.read-value.ensures.holds))
