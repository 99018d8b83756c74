use Rattle.std.proofs.Common.{◌≡◌, ◌≤◌, ◌+◌, ◌++◌, All, List, length, reverse, vec_capacity}
use Rattle.std.specs.List.{AllZip}
use Rattle.thread_jobs.specs.Jobs.{IsStarted}
use Rattle.thread_jobs.proofs.jobs.start_all.Given as goal

abbrev pub invariant-loop-job : goal.invariant-loop-job
invariant-loop-job g l =
    ((went : List g.row.J.Denot) × (l.initial.jobs.items ≡ l.jobs.items ++ reverse went) × AllZip (IsStarted g.J.Job.does l.signal.id) went l.started.items)
    × (length l.jobs.items + length l.started.items ≤ vec_capacity l.started)
    × (vec_capacity l.jobs ≡ vec_capacity l.initial.jobs) × All g.J.Job.needs l.jobs.items

abbrev pub decreases-loop-job : goal.decreases-loop-job
decreases-loop-job g l = length l.jobs.items
