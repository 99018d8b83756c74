use Rattle.std.proofs.Common.{◌≡◌, length, drop, slice_get, Some, refl, ap, ◌∙◌, subst}
use Rattle.script_runner.proofs.Prelude.{slice_get_read, task}
use Rattle.script_runner.proofs.Comparisons as comparisons
use Rattle.script_runner.proofs.Played as played
use Rattle.script_runner.proofs.workers.log.Log.step.Goals as goal

pub returns-in-None-clause-goes : goal.returns-in-None-clause-goes
returns-in-None-clause-goes g c = played.none_played c.args.hand c.args.table.now (drop c.args.at c.args.tasks.now.items) c.args.self.now

pub compare_at-requires-clause-is : goal.compare_at-requires-clause-is
compare_at-requires-clause-is g c =
    let l = c.in-Some.ensures.lookup in
    subst (λ ys. slice_get ys c.args.at ≡ Some c.in-Some.task.now) c.deref.ensures.value
    (slice_get_read c.deref.result.now (length c.deref.result.now) c.args.at c.in-Some.task.now refl l.3.0 l.1)
    ∙ ap (λ a. Some (task c.in-Some.task.now.statement a)) c.in-Compare.is

pub act_at-requires-clause-is : goal.act_at-requires-clause-is
act_at-requires-clause-is g c =
    let l = c.in-Some.ensures.lookup in
    subst (λ ys. slice_get ys c.args.at ≡ Some c.in-Some.task.now) c.deref.ensures.value
    (slice_get_read c.deref.result.now (length c.deref.result.now) c.args.at c.in-Some.task.now refl l.3.0 l.1)

pub act_at-requires-in_default : goal.act_at-requires-in_default
act_at-requires-in_default g c =
    let l = c.in-Some.ensures.lookup in
    record {
      is = subst (λ ys. slice_get ys c.args.at ≡ Some c.in-Some.task.now) c.deref.ensures.value
          (slice_get_read c.deref.result.now (length c.deref.result.now) c.args.at c.in-Some.task.now refl l.3.0 l.1);
      alone = comparisons.alone c.args.self.now.taken c.in-Some.task.now.act c.in_default.not-Compare;
      going = c.requires.going;
    }
