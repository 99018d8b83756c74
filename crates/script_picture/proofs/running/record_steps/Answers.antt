use Rattle.std.proofs.Common.{◌<◌, ℕ, None, ap, arith, get_or, length, refl, subst, sym, ◌∙◌}
use Rattle.std.proofs.lemmas.List.Elements.{All-get_or}
use Rattle.step_table.specs.declared.memory.extent.Extent.{Extent}
use Rattle.step_threads.specs.declared.said.Stepped.TheVariants.{Event}
use Rattle.step_core.specs.declared.trace.TraceStep.{TraceStep}
use Rattle.step_core.specs.Runs.{NamesActor}
use Rattle.script_picture.proofs.Stepping.{seen_all, seen_more, seen_none}
use Rattle.script_picture.proofs.Taking.{fits_still}
use Rattle.script_picture.proofs.running.record_steps.Goals as goal

nothing : TraceStep
nothing = record {
  actor = 0;
  stepped = Event (record { statement = 0; answer = None; ended = None });
}

pub loop-step-init : goal.loop-step-init
loop-step-init c = record {
  sees = λ last run. seen_none c.args.world.now c.args.steps.now last c.args.rows.now run;
  part = refl;
  actors = refl;
  fits = c.requires.fits;
}

pub take_step-requires-clause-actor : goal.take_step-requires-clause-actor
unfolding nothing
take_step-requires-clause-actor c =
    let here : c.loop-step.step-index < length c.args.steps.now = omega arith in
    subst (λ (n : ℕ). NamesActor n (get_or c.args.steps.now c.loop-step.step-index nothing).actor)
    (sym c.loop-step.invariant.actors)
    (All-get_or (λ (x : TraceStep). NamesActor (length c.args.world.now.frame_views) x.actor)
    c.args.steps.now c.loop-step.step-index nothing here
    c.requires.actors)

pub loop-step-preserved : goal.loop-step-preserved
unfolding nothing
loop-step-preserved c =
    let here : c.loop-step.step-index < length c.args.steps.now = omega arith in
    let i = c.loop-step.invariant in
    let e = c.in_ok-take_step.ensures in
    record {
      sees = λ last run.
          seen_more c.args.world.now c.args.steps.now c.loop-step.step-index nothing last
          c.loop-step.world c.take_step.new.world c.args.rows.now c.loop-step.rows
          c.take_step.new.rows here (i.sees last run) e.adds;
      part = e.part ∙ i.part;
      actors = e.actors ∙ i.actors;
      fits =
          fits_still c.loop-step.rows.source c.take_step.new.rows.source c.loop-step.world
          c.take_step.new.world e.same (ap (λ (x : Extent). x.shape) e.extent) i.fits;
    }

pub returns-clause-sees : goal.returns-clause-sees
returns-clause-sees c last run =
    seen_all c.args.world.now c.args.steps.now c.loop-step.step-index last c.loop-step.world
    c.args.rows.now c.loop-step.rows (omega arith) (c.loop-step.invariant.sees last run)
