use Rattle.std.proofs.Common.{sym, ◌∙◌, arith}
use Rattle.step_core.proofs.turning.Resting.{on_step, rest_first}
use Rattle.step_core.proofs.runs.Measures.{before_end}
use Rattle.step_core.proofs.world.World.rest.Goals as goal

pub loop-self-preserved : goal.loop-self-preserved
loop-self-preserved c =
    on_step c.args.number c.args.self.now c.loop-self.self c.advance.new.self c.advance.result c.loop-self.invariant c.advance.ensures.was
    (sym c.has_rest.ensures ∙ c.loop-self-test.true) c.advance.ensures.steps c.advance.ensures.actors
    c.advance.ensures.advances

pub loop-self-smaller : goal.loop-self-smaller
loop-self-smaller c =
    let s = c.advance.ensures in
    let a = c.loop-self.invariant.actors in
    let w = c.requires in
    (before_end c.args.number c.loop-self.self c.advance.new.self c.advance.result s.was s.kept (omega (arith, a, w)) s.steps
    (λ done. rest_first c.args.number c.loop-self.self (sym c.has_rest.ensures ∙ c.loop-self-test.true) (s.advances.takes.over.0 done)) s.never).own
