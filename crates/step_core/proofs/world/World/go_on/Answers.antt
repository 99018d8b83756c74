use Rattle.std.proofs.Common.{sym, ◌∙◌, subst, arith}
use Rattle.step_core.proofs.Prelude.{Plays, Turned}
use Rattle.step_core.proofs.turning.Chains.{more_steps, one_step}
use Rattle.step_core.proofs.turning.Trying.{trying_done, trying_on}
use Rattle.step_core.proofs.turning.Ways.{tries_first}
use Rattle.step_core.proofs.runs.Measures.{before_end}
use Rattle.step_core.proofs.world.World.go_on.Goals as goal

pub loop-stepped-preserved : goal.loop-stepped-preserved
loop-stepped-preserved c =
    let s = c.advance-stepped in
    trying_on c.args.number c.args.self.now c.loop-stepped.self s.new.self s.result c.loop-stepped.invariant
    s.ensures.was s.ensures.steps s.ensures.never
    (sym c.is_event.ensures ∙ c.if-is_event.false) s.ensures.actors s.ensures.advances

pub loop-stepped-smaller : goal.loop-stepped-smaller
loop-stepped-smaller c =
    let s = c.advance-stepped.ensures in
    let i = c.loop-stepped.invariant in
    let a = i.actors in
    let w = c.requires.within in
    (before_end c.args.number c.loop-stepped.self c.advance-stepped.new.self c.advance-stepped.result s.was s.kept (omega (arith, a, w)) s.steps
    (λ done. tries_first c.args.number c.loop-stepped.self i.tries (s.advances.takes.over.0 done)) s.never).own

pub returns-then-is_event-clause-plays : goal.returns-then-is_event-clause-plays
returns-then-is_event-clause-plays c =
    let s = c.advance-stepped in
    subst (λ (t : Turned). Plays c.args.number c.args.self.now t s.new.self) (sym c.turned.ensures)
    (trying_done c.args.number c.args.self.now c.loop-stepped.self s.new.self s.result c.loop-stepped.invariant
    s.ensures.was s.ensures.steps s.ensures.never
    (sym c.is_event.ensures ∙ c.if-is_event.true) s.ensures.kept)

pub returns-then-is_event-clause-goes : goal.returns-then-is_event-clause-goes
returns-then-is_event-clause-goes c =
    let s = c.advance-stepped in
    more_steps c.args.number c.args.self.now c.loop-stepped.self s.new.self c.loop-stepped.invariant.goes
    (one_step c.args.number c.loop-stepped.self s.new.self s.result s.ensures.advances)
