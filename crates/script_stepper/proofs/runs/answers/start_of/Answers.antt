use Rattle.script_stepper.proofs.Prelude.{program_in}
use Rattle.script_stepper.proofs.StepLemmas.{first_rests, world_state_is}
use Rattle.script_stepper.proofs.runs.answers.start_of.Goals as goal

pub returns-clause-world_state : goal.returns-clause-world_state
returns-clause-world_state c =
    world_state_is c.args.script.now c.blocks-shared.result c.threads-threads.result c.shape_of-shape.result c.in_ok-world.world
    c.blocks-shared.ensures.number c.threads-threads.ensures.number c.shape_of-shape.ensures.shape c.in_ok-world.ensures.ok

pub returns-clause-rests : goal.returns-clause-rests
returns-clause-rests c = first_rests c.shape_of-shape.result (program_in c.args.script.now.threads) c.in_ok-world.world c.in_ok-world.ensures.ok
