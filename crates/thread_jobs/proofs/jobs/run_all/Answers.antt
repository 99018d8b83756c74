use Rattle.thread_jobs.proofs.Starting.{all_same}
use Rattle.thread_jobs.proofs.jobs.run_all.Goals as goal

pub returns-in_default : goal.returns-in_default
returns-in_default g c = all_same g.J.Job.does c.args.jobs.items
