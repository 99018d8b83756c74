use Rattle.std.proofs.Common.{◌≡◌, ◌∙◌, List, [], ap, subst, sym}
use Rattle.control_word.specs.declared.shape.Shape.{Shape}
use Rattle.leak_report.specs.Holders.{free_cells}
use Rattle.script_text.specs.Beginnings.{script_shape, script_world_state}
use Rattle.step_core.specs.declared.trace.TraceStep.{TraceStep}
use Rattle.step_core.specs.Runs.{IsRun}
use Rattle.step_core.specs.Worlds.{WorldState}
use Rattle.script_picture.specs.Recording.{SeesSteps}
use Rattle.script_picture.proofs.recorded.stepped_rows.Goals as goal

pub record_steps-requires-clause-fits : goal.record_steps-requires-clause-fits
record_steps-requires-clause-fits c =
    let shape : c.in-Ok.field-0.world.ghost_state.extent.shape ≡ script_shape c.args.script.now =
    ap (λ (x : WorldState). x.ghost_state.extent.shape) c.in-Ok.ensures.world_state in
    record {
      blocks = c.in_ok-rows.ensures.blocks ∙ c.in-Ok.ensures.blocks;
      cells = ap (λ (x : Shape). free_cells x) shape;
    }

pub returns-clause-rows : goal.returns-clause-rows
returns-clause-rows c last run =
    let u = script_world_state c.args.script.now in
    let steps = c.as_slice.result.now in
    let here : IsRun c.in-Ok.field-0.world steps last =
    subst (λ (w : WorldState). IsRun w steps last) (sym c.in-Ok.ensures.world_state)
    (subst (λ (l : List TraceStep). IsRun u l last) (sym c.as_slice.ensures.value) run) in
    let r = c.in_ok-record_steps.ensures.sees last here in (
      r.0,
      subst (λ (l : List TraceStep). SeesSteps u l r.0 last) c.as_slice.ensures.value
          (subst (λ (w : WorldState). SeesSteps w steps r.0 last) c.in-Ok.ensures.world_state r.1),
      r.2.adds [] c.in_ok-rows.ensures.none,
    )
