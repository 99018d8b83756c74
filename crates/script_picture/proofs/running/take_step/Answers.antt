use Rattle.std.proofs.Common.{ℕ, ◌-◌, ◌∙◌, ap, refl, subst, sym}
use Rattle.std.proofs.lemmas.Result.{on_ok_weaker}
use Rattle.step_core.specs.Runs.{NamesActor}
use Rattle.step_table.specs.declared.memory.extent.Extent.{Extent}
use Rattle.script_picture.proofs.Taking.{fits_still}
use Rattle.script_picture.proofs.Stepping.{heard_again, same_step}
use Rattle.script_picture.proofs.running.take_step.Goals as goal

pub add_row-requires-clause-fits : goal.add_row-requires-clause-fits
add_row-requires-clause-fits c =
    fits_still c.args.rows.now.source c.args.rows.now.source c.args.world.now c.step.new.self refl
    (ap (λ (x : Extent). x.shape) c.step.ensures.extent) c.requires.fits

pub add_row-requires-clause-thread : goal.add_row-requires-clause-thread
add_row-requires-clause-thread c =
    subst (λ (n : ℕ). NamesActor n c.args.step.now.actor) (sym c.step.ensures.actors) c.requires.actor

pub returns-clause-adds : goal.returns-clause-adds
returns-clause-adds c =
    let x = c.args.step.now in
    on_ok_weaker c.add_row.result (λ adds m advances.
    let same = same_step (x.actor - 1) c.args.world.now c.step.new.self m c.step.result x.stepped
    c.step.ensures.steps advances in (
      same,
      heard_again x c.in-Some.said c.step.new.self m c.args.rows.now c.add_row.new.rows same
          (sym c.said_of.ensures ∙ c.in-Some.is) adds,
    )) c.add_row.ensures
