use Rattle.std.proofs.Common.{◌-◌, ◌<◌, length, ap, arith}
use Rattle.step_core.proofs.Prelude.{length-map, thread_frame, WorldState}
use Rattle.step_core.proofs.Worlds.{some_slots}
use Rattle.step_core.proofs.world.World.held.Goals as goal

pub held_at-requires : goal.held_at-requires
held_at-requires c =
    let l = ap (λ (u : WorldState). length u.frame_views) c.self.view_is in
    let m = length-map c.self.inside.threads.items thread_frame in
    let f = c.from.ensures in
    let lt : c.from.result - 1 < length c.self.inside.threads.items = omega (arith, l, m, f, c.requires.some, c.requires.within) in
    some_slots c.self.inside.table c.self.inside.threads.items (c.from.result - 1) c.index.result.now c.self.invariant.0 lt c.index.ensures
