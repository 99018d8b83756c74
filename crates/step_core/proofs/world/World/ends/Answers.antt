use Rattle.std.proofs.Common.{List, ap, ◌∙◌}
use Rattle.step_core.proofs.Prelude.{ends_in, is_ending_in, list_any, Thread, WorldState}
use Rattle.step_core.proofs.telling.Between.{ends_map}
use Rattle.step_core.proofs.world.World.ends.Goals as goal

pub returns : goal.returns
returns c =
    c.end_in.ensures
    ∙ ap (λ (l : List Thread). list_any (λ (t : Thread). is_ending_in c.args.block.0 t.frame.endings.list) l) c.as_slice.ensures.value
    ∙ ends_map c.args.block.0 c.self.inside.threads.items
    ∙ ap (λ (u : WorldState). ends_in c.args.block.0 u.frame_views) c.self.view_is
