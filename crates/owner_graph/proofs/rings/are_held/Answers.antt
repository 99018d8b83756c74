use Rattle.std.proofs.Common.{ℕ, ◌+◌, subst}
use Rattle.owner_graph.specs.Rings.{IsHeld}
use Rattle.owner_graph.proofs.Steps.{next_low}
use Rattle.owner_graph.proofs.rings.are_held.Goals as goal

pub loop-before-preserved : goal.loop-before-preserved
loop-before-preserved c =
    let held = λ (b : ℕ). IsHeld c.args.index.now c.args.knots.now c.args.ring.now b in
    next_low held c.loop-before.before c.loop-before.invariant
    (subst (λ (b : ℕ). held (b + 1)) c.as_index-vertex.ensures
    (c.is_held.ensures c.if-not-is_held.false))
