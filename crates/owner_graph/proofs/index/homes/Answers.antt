use Rattle.std.proofs.Common.{◌+◌, arith, refl, subst, sym}
use Rattle.owner_graph.proofs.Prelude.{All, All-push, IsAmong}
use Rattle.owner_graph.proofs.Homes.{home_among, homes_more}
use Rattle.owner_graph.proofs.index.homes.Goals as goal

pub loop-before-preserved : goal.loop-before-preserved
loop-before-preserved c = (
  homes_more c.args.knots.now c.loop-before.before (c.loop-before.before + 1)
      (c.loop-before.before + 1) _ c.loop-before.homes.items
      c.push.new.self.items c.loop-before.invariant.0 c.in_ok-push.ensures.items c.home.ensures refl
      refl,
  subst (All (IsAmong c.args.vertices)) (sym c.in_ok-push.ensures.items)
      (All-push (IsAmong c.args.vertices) c.loop-before.homes.items _
      c.loop-before.invariant.1
      (home_among c.args.knots.now c.args.vertices (c.loop-before.before + 1) _ c.home.ensures
      c.requires (omega arith) (omega arith))),
)
