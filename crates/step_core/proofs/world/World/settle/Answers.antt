use Rattle.std.proofs.Common.{◌∙◌, arith}
use Rattle.step_core.proofs.Prelude.{Settles}
use Rattle.step_core.proofs.runs.Chains.{adds_more}
use Rattle.step_core.proofs.world.World.settle.Goals as goal

pub loop-number-preserved : goal.loop-number-preserved
loop-number-preserved c =
    let i = c.loop-number.invariant in
    let f = c.settle_one.ensures in
    record {
      adds = adds_more Settles c.loop-number.number c.args.self.now c.loop-number.self c.settle_one.new.self c.args.steps.now.items c.loop-number.steps.items
          c.settle_one.new.steps.items i.adds f.adds;
      room = (let before = i.room in let more = f.room in let capacity = f.capacity in omega (arith, before, more, capacity));
      actors = f.actors ∙ i.actors;
    }
