use Rattle.std.proofs.Common.{length}
use Rattle.script_stepper.specs.Runs.{IsTextBy}
use Rattle.script_stepper.proofs.Answering.{tells_run}
use Rattle.script_stepper.proofs.TurnBounds.{items_named}
use Rattle.script_stepper.proofs.runs.answers.answer.Goals as goal

pub run-requires : goal.run-requires
run-requires c =
    items_named c.threads.result (length c.in_ok-script.script.threads) c.args.turns.now c.in_ok-turns.turns.items c.as_slice.result.now
    c.threads.ensures.number c.as_slice.ensures.value c.in_ok-turns.ensures

pub returns : goal.returns
returns c =
    tells_run (IsTextBy c.args.pace) c.args.script.now c.args.turns.now c.in_ok-script.script c.in_ok-turns.turns.items c.as_slice.result.now
    c.threads.result c.run.result
    c.in_ok-script.ensures.holds c.threads.ensures.number c.as_slice.ensures.value c.in_ok-turns.ensures c.run.ensures.ok c.run.ensures.memory
