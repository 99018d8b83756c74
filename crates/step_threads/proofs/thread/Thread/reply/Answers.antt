use Rattle.std.proofs.Common.{ℕ, Some, None, refl, ap, ◌∙◌}
use Rattle.step_threads.proofs.Prelude.{Answer, Ask, Quiet, Rest, Said, task_at}
use Rattle.step_threads.proofs.Acting.{acts_as, can_act, went_quiet}
use Rattle.step_threads.proofs.thread.Thread.reply.Goals as goal

pub reply-requires-clause-can : goal.reply-requires-clause-can
reply-requires-clause-can c =
    let r = c.requires in can_act c.args.desk c.args.self.now c.args.table.now r.begins

pub returns-clause-stepped : goal.returns-clause-stepped
returns-clause-stepped c =
    let d = c.args.desk in
    let t = c.args.self.now in
    let v = c.args.table.now in
    let r = c.requires in
    let tell : ℕ → Answer → Said = λ n a. record { statement = n; answer = Some a; ended = None } in
    acts_as d t v r.begins (Ask c.args.question) r.act None Rest _ _ _ refl refl
    (ap (λ (s : Said). Quiet s) (ap (λ (n : ℕ). tell n c.reply.result) c.statement-statement.ensures
    ∙ ap (tell (task_at t.frame).statement) c.reply.ensures.answer)) refl c.reply.ensures.frame_view r.begins.rest

pub returns-clause-fits : goal.returns-clause-fits
returns-clause-fits c =
    let d = c.args.desk in
    let t = c.args.self.now in
    let v = c.args.table.now in
    let r = c.requires in
    went_quiet d t v r.begins c.reply.new.self c.reply.ensures.on
