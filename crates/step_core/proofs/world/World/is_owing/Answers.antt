use Rattle.std.proofs.Common.{◌<◌, length, ap, ◌∙◌, arith}
use Rattle.step_core.proofs.Prelude.{is_owing, length-map, thread_frame, WorldState}
use Rattle.step_core.proofs.runs.Owing.{owes}
use Rattle.step_core.proofs.world.World.is_owing.Goals as goal

pub returns : goal.returns
returns c =
    let l = ap (λ (u : WorldState). length u.frame_views) c.self.view_is in
    let m = length-map c.self.inside.threads.items thread_frame in
    let lt : c.args.number < length c.self.inside.threads.items = omega (arith, l, m, c.requires) in
    c.has_funds_out.ensures
    ∙ owes c.self.inside.table c.self.inside.threads.items c.args.number c.index-thread.result.now c.self.invariant.0 lt c.index-thread.ensures
    ∙ ap (λ (u : WorldState). is_owing u c.args.number) c.self.view_is
