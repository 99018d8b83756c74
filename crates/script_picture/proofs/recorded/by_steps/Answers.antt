use Rattle.std.proofs.Common.{ℕ, subst, sym}
use Rattle.std.specs.Prelude.{All}
use Rattle.step_core.specs.declared.trace.TraceStep.{TraceStep}
use Rattle.step_core.specs.Runs.{NamesActor}
use Rattle.script_picture.proofs.Stepping.{steps_named}
use Rattle.script_picture.proofs.recorded.by_steps.Goals as goal

pub stepped_rows-requires : goal.stepped_rows-requires
stepped_rows-requires c =
    subst (λ (n : ℕ). All (λ (x : TraceStep). NamesActor n x.actor) c.in-Ok.trace.steps.items)
    c.in_ok-world.ensures.threads
    (steps_named c.args.turns.now c.in_ok-world.field-0.world c.in-Ok.trace.steps.items
    c.trace_of.new.world c.in-Ok.ensures.run.scheduled
    (subst (λ (n : ℕ). All (NamesActor n) c.args.turns.now) (sym c.in_ok-world.ensures.threads)
    c.requires))
