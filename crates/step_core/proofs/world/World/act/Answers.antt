use Rattle.std.proofs.Common.{sym, ◌∙◌, subst}
use Rattle.step_core.proofs.Prelude.{Plays, Turned}
use Rattle.step_core.proofs.turning.Chains.{more_steps, one_step}
use Rattle.step_core.proofs.turning.Playing.{begins_act, plays}
use Rattle.step_core.proofs.turning.Turns.{plays_on}
use Rattle.step_core.proofs.world.World.act.Goals as goal

pub returns-then-is_acting-2-clause-plays : goal.returns-then-is_acting-2-clause-plays
returns-then-is_acting-2-clause-plays c =
    let s = c.advance-stepped in
    let b = begins_act c.args.number c.args.self.now s.new.self s.result
    (sym c.is_acting.ensures ∙ c.if-is_acting.false) c.requires.rested s.ensures.was
    s.ensures.steps (sym c.is_acting-2.ensures ∙ c.if-is_acting-2.true) in
    let g = c.go_on-then-is_acting-2 in
    plays_on c.args.number c.args.self.now s.new.self g.new.self g.result
    (one_step c.args.number c.args.self.now s.new.self s.result s.ensures.advances) b.0 b.1 g.ensures.plays

pub returns-then-is_acting-2-clause-goes : goal.returns-then-is_acting-2-clause-goes
returns-then-is_acting-2-clause-goes c =
    let s = c.advance-stepped in
    let g = c.go_on-then-is_acting-2 in
    more_steps c.args.number c.args.self.now s.new.self g.new.self
    (one_step c.args.number c.args.self.now s.new.self s.result s.ensures.advances) g.ensures.goes

pub returns-clause-plays : goal.returns-clause-plays
returns-clause-plays c =
    let s = c.advance-stepped in
    subst (λ (t : Turned). Plays c.args.number c.args.self.now t s.new.self) (sym c.turned.ensures)
    (plays c.args.number c.args.self.now s.new.self s.result (sym c.is_acting.ensures ∙ c.if-is_acting.false)
    c.requires.rested s.ensures.was
    s.ensures.steps s.ensures.never s.ensures.kept (sym c.is_acting-2.ensures ∙ c.if-is_acting-2.false))

pub returns-clause-goes : goal.returns-clause-goes
returns-clause-goes c =
    let s = c.advance-stepped in one_step c.args.number c.args.self.now s.new.self s.result s.ensures.advances
