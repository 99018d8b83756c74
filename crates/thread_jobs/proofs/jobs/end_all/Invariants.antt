use Rattle.std.proofs.Common.{◌≡◌, ◌≤◌, ◌+◌, List, length, vec_capacity}
use Rattle.std.specs.List.{AllZip}
use Rattle.thread_jobs.specs.Jobs.{IsStarted, Keeps}
use Rattle.thread_jobs.proofs.Starting.{AreBack}
use Rattle.thread_jobs.proofs.jobs.end_all.Given as goal

abbrev pub invariant-loop-one : goal.invariant-loop-one
invariant-loop-one g l =
    ((went : List g.row.J.Denot) → AllZip (IsStarted g.J.Job.does l.signal.id) went l.initial.started.items
    → AreBack (IsStarted g.J.Job.does l.signal.id) (Keeps g.J.Job.does l.all.value) went l.started.items l.jobs.items)
    × (length l.started.items + length l.jobs.items ≤ vec_capacity l.jobs)
    × (l.all.of ≡ l.signal.id)

abbrev pub decreases-loop-one : goal.decreases-loop-one
decreases-loop-one g l = length l.started.items
