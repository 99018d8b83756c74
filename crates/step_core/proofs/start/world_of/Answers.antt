use Rattle.std.proofs.Common.{◌≡◌, length, sym, subst}
use Rattle.step_core.proofs.Prelude.{AllFit, Extent, first_ghost, GhostState, length-map, part_of}
use Rattle.step_core.proofs.Prelude.{TotalsAreTold, world_state}
use Rattle.step_core.proofs.telling.Starting.{told_start}
use Rattle.step_core.proofs.start.world_of.Goals as goal

pub invariant_of-result : goal.invariant_of-result
invariant_of-result c =
    let x : Extent = record { shape = c.args.shape; actors = length c.args.actors.now } in
    let threads = c.in_ok-threads.threads.items in
    let e : c.in_ok-table.table ≡ first_ghost x = c.in_ok-table.ensures in (
      subst (λ (v : GhostState). AllFit v threads) (sym e) c.in_ok-threads.ensures.fit,
      subst (λ (v : GhostState). TotalsAreTold (world_state v threads) 0 0) (sym e)
          (told_start x _ threads (sym (length-map c.args.actors.now part_of)) c.requires.begin.program c.requires.fields c.in_ok-threads.ensures.frame_views),
    )
