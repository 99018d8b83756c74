use Rattle.std.proofs.Common.{sym, ◌∙◌, arith}
use Rattle.script_runner.proofs.Assigning.{tasks_for}
use Rattle.script_runner.proofs.workers.requirements.assignment_for.Goals as goal

pub returns : goal.returns
returns c =
    let few = c.requires.names in
    let long = c.len.ensures in
    let items = c.args.actor.now.kinds.ok.0 in
    let tasks = c.in_ok-tasks.tasks.ok.0 in
    let many = c.len-2.ensures in
    let room = c.in_ok-said.ensures.exact in (
      (
        sym (c.in_ok-kinds.ensures.items ∙ c.as_slice-2.ensures.value),
        tasks_for _ _ _ _ _ c.in_ok-tasks.ensures c.as_slice.ensures.value (omega (arith, few, long, items)),
      ),
      omega (arith, tasks, many, room),
    )
