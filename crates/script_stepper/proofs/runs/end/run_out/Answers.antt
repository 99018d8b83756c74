use Rattle.std.proofs.Common.{◌≡◌, ℕ, ◌+◌, ◌≤◌, All, sym, ap, ◌∙◌, subst}
use Rattle.script_stepper.proofs.Prelude.{abstraction, IsRunOut, script_shape, Shape, WorldState}
use Rattle.script_stepper.proofs.Overs.{at_end}
use Rattle.script_stepper.proofs.StepLemmas.{same_blocks, same_shape, traced}
use Rattle.script_stepper.proofs.runs.end.run_out.Goals as goal

pub run_turns-requires-clause-threads : goal.run_turns-requires-clause-threads
run_turns-requires-clause-threads c =
    subst (λ (n : ℕ). All (λ t. (1 ≤ t) × (t ≤ n)) c.args.turns.now) (sym c.in_ok-world.ensures.threads) c.requires

pub invariant_of-result : goal.invariant_of-result
invariant_of-result c =
    let u = c.in_ok-world.field-0.world in
    let v = c.run_turns.new.world in
    let run = c.in-Ok.ensures.run.run in
    let same : v.ghost_state.extent.shape ≡ script_shape c.args.script.now =
    same_shape _ u v _ _ run ∙ ap (λ (x : WorldState). x.ghost_state.extent.shape) c.in_ok-world.ensures.world_state in
    record {
      ended = at_end v run.rests c.in-Ok.ensures.over;
      all = c.in_ok-world.ensures.blocks ∙ sym (same_blocks _ u v _ _ run);
      shared = ap (λ (x : Shape). x.shared_cells) same;
      cells = ap (λ (x : Shape). x.shared_cells + x.weak_cells) same;
    }

pub returns-in-Ok-clause-ok : goal.returns-in-Ok-clause-ok
returns-in-Ok-clause-ok c =
    let u = c.in_ok-world.field-0.world in
    let v = c.run_turns.new.world in
    subst (λ (w : WorldState). IsRunOut c.args.turns.now (abstraction w) (abstraction v)) c.in_ok-world.ensures.world_state
    (_, traced c.args.turns.now u v _ _ c.in-Ok.ensures.run c.in-Ok.ensures.over)
