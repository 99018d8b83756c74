use Rattle.script_stepper.proofs.Prelude.{script_abstraction}
use Rattle.script_stepper.specs.Runs.{IsRunText}
use Rattle.script_stepper.proofs.Answering.{steps_syntax, steps_turns, steps_runs}
use Rattle.script_stepper.proofs.Following.{turns_follow}
use Rattle.script_stepper.proofs.OneTrace.{one_turn_text}
use Rattle.script_stepper.proofs.runs.answers.step_text.Goals as goal

pub returns-clause-syntax : goal.returns-clause-syntax
returns-clause-syntax g c =
    λ line cause f. steps_syntax IsRunText c.args.script.now c.args.turns.now c.deliver.result _ _ line cause c.deliver.ensures.holds f

pub returns-clause-turns : goal.returns-clause-turns
returns-clause-turns g c =
    λ threads position h f. steps_turns IsRunText c.args.script.now c.args.turns.now c.deliver.result _ _ threads position c.deliver.ensures.holds h f

pub returns-clause-runs : goal.returns-clause-runs
returns-clause-runs g c =
    λ threads listed h l. steps_runs IsRunText c.args.script.now c.args.turns.now c.deliver.result _ _ threads listed c.deliver.ensures.holds h l

pub returns-clause-one : goal.returns-clause-one
returns-clause-one g c = λ threads listed text other p q. one_turn_text listed (script_abstraction threads) text other p q

pub returns-clause-acts : goal.returns-clause-acts
returns-clause-acts g c = λ threads listed text told. turns_follow threads listed told.items told.last told.trace
