use Rattle.std.proofs.Common.{◌∙◌, sym}
use Rattle.step_table.specs.GhostStates.{model_state}
use Rattle.script_picture.proofs.Pointing.{census_some}
use Rattle.script_picture.proofs.pointers.add_block.Goals as goal

pub add_members-requires : goal.add_members-requires
add_members-requires c =
    census_some (model_state c.args.world.now.ghost_state) c.args.block.0 c.in-Some.field-0
    (sym c.counts.ensures ∙ c.in-Some.is)
