use Rattle.std.proofs.Common.{◌∙◌, Some, ap, arith, length, refl}
use Rattle.std.proofs.lemmas.List.{nil_from_length}
use Rattle.std.proofs.lemmas.List.Elements.{All-pop}
use Rattle.thread_jobs.specs.Jobs.{IsStarted}
use Rattle.thread_jobs.proofs.Starting.{all_started, begun, started_more}
use Rattle.thread_jobs.proofs.jobs.start_all.Goals as goal

pub loop-job-init : goal.loop-job-init
loop-job-init g c =
    let room = c.requires.room in let none = ap length room.0 in (
      begun (IsStarted {R = g.row.R.Denot} g.J.Job.does c.args.signal.now.id) c.args.jobs.now.items c.args.started.now.items room.0,
      omega (arith, none, room.1),
      refl,
      c.requires.needs,
    )

pub start-requires-clause-needs : goal.start-requires-clause-needs
start-requires-clause-needs g c κs within =
    (All-pop g.J.Job.needs c.loop-job.jobs.items c.pop.new.self.items (Some c.in-Some.job) c.in-Some.ensures.items c.loop-job.invariant.3).1

pub loop-job-preserved : goal.loop-job-preserved
loop-job-preserved g c =
    let i = c.loop-job.invariant in let a = c.in-Some.ensures in let p = c.push_reserved.ensures in
    let js = c.loop-job.jobs in let ss = c.loop-job.started in (
      started_more (IsStarted {R = g.row.R.Denot} g.J.Job.does c.args.signal.now.id) c.args.jobs.now.items js.items c.pop.new.self.items
          ss.items c.push_reserved.new.self.items c.in-Some.job c.start.result i.0 a.items p.items c.start.ensures,
      (let x = a.cases in let z = i.1 in let k = js.ok.0 in let m = c.pop.new.self.ok.0 in let o = p.capacity in let q = p.len in
          let r = ss.ok.0 in let s = c.push_reserved.new.self.ok.0 in omega arith),
      a.capacity ∙ i.2,
      (All-pop g.J.Job.needs js.items c.pop.new.self.items (Some c.in-Some.job) a.items i.3).0,
    )

pub returns-clause-jobs : goal.returns-clause-jobs
returns-clause-jobs g c =
    let js = c.loop-job.jobs in
    all_started (IsStarted {R = g.row.R.Denot} g.J.Job.does c.args.signal.now.id) c.args.jobs.now.items js.items c.loop-job.started.items
    c.loop-job.invariant.0 (nil_from_length js.items (let n = js.ok.0 in let m = c.in_default.ensures.cases.0 in omega arith))
