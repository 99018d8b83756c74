use Rattle.pointers.proofs.Prelude.{Worked}
use Rattle.thread_jobs.proofs.Starting.{all_ran, none_ran}
use Rattle.pointers.proofs.program.staff.work_all.Goals as goal

pub returns-then-hired-clause-worked : goal.returns-then-hired-clause-worked
returns-then-hired-clause-worked g c =
    λ is. all_ran (Worked g.P.Program.answers) c.run_all.result.0 c.args.staff.items c.run_all.result.1.items is c.run_all.ensures

pub returns-then-hired-clause-same : goal.returns-then-hired-clause-same
returns-then-hired-clause-same g c =
    λ is. none_ran (Worked g.P.Program.answers) c.run_all.result.0 c.args.staff.items c.run_all.result.1.items is c.run_all.ensures
