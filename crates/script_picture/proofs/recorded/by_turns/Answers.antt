use Rattle.std.proofs.Common.{◌≡◌, ◌∙◌, ◌+◌, ℕ, ap, subst, sym}
use Rattle.std.specs.Prelude.{◌≤◌, All}
use Rattle.control_word.specs.declared.shape.Shape.{Shape}
use Rattle.step_core.specs.Worlds.{WorldState}
use Rattle.script_text.specs.Beginnings.{script_shape}
use Rattle.script_stepper.proofs.Overs.{at_end}
use Rattle.script_stepper.proofs.StepLemmas.{same_blocks, same_shape}
use Rattle.leak_report.specs.Holders.{free_cells}
use Rattle.script_picture.specs.Parts.{shown_part}
use Rattle.script_picture.proofs.Ending.{turns_recorded}
use Rattle.script_picture.proofs.recorded.by_turns.Goals as goal

pub record_turns-requires-clause-threads : goal.record_turns-requires-clause-threads
record_turns-requires-clause-threads c =
    subst (λ (n : ℕ). All (λ t. (1 ≤ t) × (t ≤ n)) c.args.turns.now) (sym c.in_ok-world.ensures.threads) c.requires

pub record_turns-requires-clause-fits : goal.record_turns-requires-clause-fits
record_turns-requires-clause-fits c =
    let shape : c.in_ok-world.field-0.world.ghost_state.extent.shape ≡ script_shape c.args.script.now =
    ap (λ (x : WorldState). x.ghost_state.extent.shape) c.in_ok-world.ensures.world_state in
    record {
      blocks = c.in-Ok.ensures.blocks ∙ c.in_ok-world.ensures.blocks;
      cells = ap (λ (x : Shape). free_cells x) shape;
    }

pub invariant_of-result : goal.invariant_of-result
invariant_of-result c =
    let u = c.in_ok-world.field-0.world in
    let v = c.record_turns.new.world in
    let run = c.in-Ok-record_turns.ensures.taken.taken.run in
    let same : v.ghost_state.extent.shape ≡ script_shape c.args.script.now =
    same_shape _ u v _ _ run ∙ ap (λ (x : WorldState). x.ghost_state.extent.shape) c.in_ok-world.ensures.world_state in
    record {
      ended = at_end v run.rests c.in-Ok-record_turns.ensures.over;
      all = c.in_ok-world.ensures.blocks ∙ sym (same_blocks _ u v _ _ run);
      shared = ap (λ (x : Shape). x.shared_cells) same;
      cells = ap (λ (x : Shape). x.shared_cells + x.weak_cells) same;
    }

pub returns-in-Ok-record_turns-clause-ok : goal.returns-in-Ok-record_turns-clause-ok
returns-in-Ok-record_turns-clause-ok c =
    turns_recorded c.args.script.now c.args.turns.now (shown_part c.args.order.part) c.in_ok-world.field-0.world c.record_turns.new.world
    c.in-Ok.rows c.record_turns.new.rows c.in_ok-world.ensures.world_state c.in-Ok-record_turns.ensures.taken
    c.in-Ok-record_turns.ensures.over c.in-Ok.ensures.none c.in-Ok.ensures.part
