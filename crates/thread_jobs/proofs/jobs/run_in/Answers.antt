use Rattle.std.proofs.Common.{arith}
use Rattle.thread_jobs.specs.Jobs.{IsStarted}
use Rattle.thread_jobs.proofs.Starting.{as_many}
use Rattle.thread_jobs.proofs.jobs.run_in.Goals as goal

pub end_all-all-requires-clause-room : goal.end_all-all-requires-clause-room
end_all-all-requires-clause-room g c =
    let s = c.start_all.ensures in let is = IsStarted g.J.Job.does c.args.jobs.signal.now.id in
    let many = as_many is c.args.jobs.jobs.items c.start_all.new.started.items s.jobs in
    let all = c.args.jobs.jobs.ok in
    (s.none.0, omega (arith, many, s.none.1, all))
