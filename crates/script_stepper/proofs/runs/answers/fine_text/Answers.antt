use Rattle.script_stepper.proofs.Prelude.{IsFineText, script_world_state}
use Rattle.script_stepper.proofs.Answering.{steps_syntax, steps_turns, steps_runs}
use Rattle.script_stepper.proofs.Interleaving.{interleaves}
use Rattle.script_stepper.proofs.Once.{one_text}
use Rattle.script_stepper.proofs.runs.answers.fine_text.Goals as goal

pub returns-clause-syntax : goal.returns-clause-syntax
returns-clause-syntax g c =
    λ line cause f. steps_syntax IsFineText c.args.script.now c.args.turns.now c.deliver.result _ _ line cause c.deliver.ensures.holds f

pub returns-clause-turns : goal.returns-clause-turns
returns-clause-turns g c =
    λ threads position h f. steps_turns IsFineText c.args.script.now c.args.turns.now c.deliver.result _ _ threads position c.deliver.ensures.holds h f

pub returns-clause-runs : goal.returns-clause-runs
returns-clause-runs g c =
    λ threads listed h l. steps_runs IsFineText c.args.script.now c.args.turns.now c.deliver.result _ _ threads listed c.deliver.ensures.holds h l

pub returns-clause-one : goal.returns-clause-one
returns-clause-one g c = λ threads listed text other p q. one_text listed (script_world_state threads) text other p q

pub returns-clause-interleaves : goal.returns-clause-interleaves
returns-clause-interleaves g c = λ threads listed text told. interleaves threads listed text told
