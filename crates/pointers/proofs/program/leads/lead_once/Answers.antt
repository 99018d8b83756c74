use Rattle.std.proofs.Common.{Option, Result, subst, inl}
use Rattle.pointers.proofs.Prelude.{Fault, Team}
use Rattle.pointers.proofs.Leading.{ended, started}
use Rattle.pointers.proofs.program.leads.lead_once.Goals as goal

pub returns-in-Ok-clause-started : goal.returns-in-Ok-clause-started
returns-in-Ok-clause-started g c =
    started g.P.Leader.leads g.P.Program.answers c.args.leader.now c.lead-answer.new.self c.args.kept.now.items c.lead-answer.new.kept.items
    c.lead-answer.result c.in-Ok.next c.args.teams.now
    c.follow.new.teams c.follow.result c.lead-answer.ensures c.in-Ok.is c.follow.ensures.started

pub returns-in-Ok-clause-ended : goal.returns-in-Ok-clause-ended
returns-in-Ok-clause-ended g c =
    ended g.P.Leader.leads g.P.Program.answers c.args.leader.now c.lead-answer.new.self c.args.kept.now.items c.lead-answer.new.kept.items
    c.lead-answer.result c.in-Ok.next c.args.teams.now
    c.follow.result c.lead-answer.ensures c.in-Ok.is c.follow.ensures.ended

pub returns-in-Err-clause-ended : goal.returns-in-Err-clause-ended
returns-in-Err-clause-ended g c =
    inl (subst (λ (r : Result (Option Team) Fault). g.P.Leader.leads c.args.leader.now c.args.teams.now.before c.args.kept.now.items r c.lead-answer.new.self
    c.lead-answer.new.kept.items) c.in-Err.is
    c.lead-answer.ensures)
