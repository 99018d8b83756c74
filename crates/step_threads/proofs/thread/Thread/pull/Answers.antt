use Rattle.std.proofs.Common.{None, refl, ap, ◌∙◌}
use Rattle.step_threads.proofs.Prelude.{Move, Quiet, Rest, Said, silent}
use Rattle.step_threads.proofs.Acting.{acts_as, went_quiet}
use Rattle.step_threads.proofs.thread.Thread.pull.Goals as goal

pub returns-clause-stepped : goal.returns-clause-stepped
returns-clause-stepped c =
    let d = c.args.desk in
    let t = c.args.self.now in
    let v = c.args.table.now in
    let r = c.requires in
    acts_as d t v r.begins (Move c.args.name) r.act None Rest _ _ _ refl refl
    (ap (λ (s : Said). Quiet s) (c.silent.ensures ∙ ap silent c.statement-statement.ensures)) refl c.pull.ensures.frame_view r.begins.rest

pub returns-clause-fits : goal.returns-clause-fits
returns-clause-fits c =
    let d = c.args.desk in
    let t = c.args.self.now in
    let v = c.args.table.now in
    let r = c.requires in
    went_quiet d t v r.begins c.pull.new.self (c.pull.ensures.on d v r.begins.fits.holds)
