use Rattle.std.proofs.Common.{map, reverse, sym, ap, ◌∙◌, arith}
use Rattle.thread_jobs.specs.Jobs.{Keeps}
use Rattle.script_runner.proofs.Manning.{as_many, each_worked}
use Rattle.script_runner.proofs.Needing.{posts_meet}
use Rattle.thread_jobs.proofs.Starting.{all_ran, none_ran}
use Rattle.script_runner.proofs.table.staff.posts.worked.Goals as goal

pub run_all-all-requires-clause-needs : goal.run_all-all-requires-clause-needs
run_all-all-requires-clause-needs g c κs within =
    posts_meet (λ p. p.worker) (λ p. p.table) g.W.Work.needs c.args.workers.now.items c.args.tables.now.items c.man.new.posts.items
    c.man.ensures.tables c.man.ensures.workers c.requires.needs

pub dismiss-requires-clause-tables : goal.dismiss-requires-clause-tables
dismiss-requires-clause-tables g c =
    let ran = c.run_all-all in
    let many = as_many (Keeps (λ p q. g.W.Work.does p.worker p.table q.worker q.table) ran.result.0) (λ p. p.table) c.args.tables.now.items
    c.man.new.posts.items ran.result.1.items c.man.ensures.tables ran.ensures in
    let room = c.man.ensures.room.0 in (c.man.ensures.none.0, omega (arith, many, room, c.args.tables.now.ok))

pub dismiss-requires-clause-workers : goal.dismiss-requires-clause-workers
dismiss-requires-clause-workers g c =
    let ran = c.run_all-all in
    let many = as_many (Keeps (λ p q. g.W.Work.does p.worker p.table q.worker q.table) ran.result.0) (λ p. p.worker) c.args.workers.now.items
    c.man.new.posts.items ran.result.1.items c.man.ensures.workers ran.ensures in
    let room = c.man.ensures.room.1 in (c.man.ensures.none.1, omega (arith, many, room, c.args.workers.now.ok))

pub returns-clause-worked : goal.returns-clause-worked
returns-clause-worked g c =
    λ is.
    each_worked (λ p. p.worker) (λ p. p.table) g.W.Work.does c.args.workers.now.items c.dismiss.new.workers.items c.args.tables.now.items
    c.dismiss.new.tables.items c.man.new.posts.items c.run_all-all.result.1.items c.man.ensures.tables c.man.ensures.workers
    c.dismiss.ensures.tables c.dismiss.ensures.workers
    (all_ran (λ p q. g.W.Work.does p.worker p.table q.worker q.table) c.run_all-all.result.0 c.man.new.posts.items
    c.run_all-all.result.1.items is c.run_all-all.ensures)

pub returns-clause-same : goal.returns-clause-same
returns-clause-same g c =
    λ is.
    let same = none_ran (λ p q. g.W.Work.does p.worker p.table q.worker q.table) c.run_all-all.result.0 c.man.new.posts.items
    c.run_all-all.result.1.items is c.run_all-all.ensures in (
      c.dismiss.ensures.workers ∙ (ap (λ l. reverse (map (λ p. p.worker) l)) same ∙ sym c.man.ensures.workers),
      c.dismiss.ensures.tables ∙ (ap (λ l. reverse (map (λ p. p.table) l)) same ∙ sym c.man.ensures.tables),
    )
