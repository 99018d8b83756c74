use Rattle.std.proofs.Common.{◌<◌, length, ap, arith}
use Rattle.step_core.proofs.Prelude.{length-map, thread_frame, WorldState}
use Rattle.step_core.proofs.Worlds.{thread_at}
use Rattle.step_core.proofs.world.World.is_calling.Goals as goal

pub next_statement-requires : goal.next_statement-requires
next_statement-requires c =
    let l = ap (λ (u : WorldState). length u.frame_views) c.self.view_is in
    let m = length-map c.self.inside.threads.items thread_frame in
    let lt : c.args.number < length c.self.inside.threads.items = omega (arith, l, m, c.requires) in
    (c.self.invariant.0.each c.args.number c.index-thread.result.now
    (thread_at c.self.inside.threads.items c.args.number c.index-thread.result.now lt c.index-thread.ensures)).within
