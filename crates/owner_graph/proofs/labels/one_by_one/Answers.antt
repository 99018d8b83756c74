use Rattle.std.proofs.Common.{◌+◌, ℕ, arith, subst, sym}
use Rattle.owner_graph.proofs.Prelude.{IsLeast, ◌≤◌}
use Rattle.owner_graph.proofs.Steps.{at_pushed}
use Rattle.owner_graph.proofs.labels.one_by_one.Goals as goal

pub loop-before-preserved : goal.loop-before-preserved
loop-before-preserved c =
    let all = at_pushed (λ k x. 1 ≤ k → IsLeast c.args.handles.now k x) c.loop-before.knots.items
    c.push-in-loop-before.new.self.items
    c.as_index.result (c.loop-before.before + 1) c.in_ok-push-2.ensures.items
    c.loop-before.invariant.0
    (λ k lt some. c.loop-before.invariant.1 k some (omega (arith, lt)))
    (λ some. subst (λ (l : ℕ). IsLeast c.args.handles.now (c.loop-before.before + 1) l)
    (sym c.as_index.ensures) c.in_ok-least.ensures) in
    (all.0, λ b some le. all.1 b (omega (arith, le)) some)
