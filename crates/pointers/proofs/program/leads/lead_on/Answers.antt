use Rattle.std.proofs.Common.{[], ◌∷◌, ap}
use Rattle.pointers.proofs.Prelude.{led_by}
use Rattle.pointers.specs.Leading.{led_with}
use Rattle.pointers.proofs.Leading.{leads_on, stay_still, stay_then}
use Rattle.pointers.proofs.program.leads.lead_on.Goals as goal

pub loop-init : goal.loop-init
loop-init g c = (
  ([], ap (λ l. led_with c.args.leader.now l c.args.teams.now) c.new-kept.ensures.items),
  c.requires.set,
  stay_still c.args.teams.now,
)

pub loop-preserved : goal.loop-preserved
loop-preserved g c =
    let i = c.loop.invariant in let s = c.lead_once.ensures in (
      (led_with c.loop.leader c.loop.kept.items c.loop.teams ∷ i.0.0, (i.0.1, c.in-Ok.ensures.started)),
      s.set,
      stay_then c.args.teams.now c.loop.teams c.lead_once.new.teams i.2 s.stay,
    )

pub returns-in-Err-clause-led : goal.returns-in-Err-clause-led
returns-in-Err-clause-led g c =
    let i = c.loop.invariant in let e = c.in-Err.ensures in
    leads_on g.P.Leader.leads g.P.Program.answers (led_by c.args.leader.now c.args.teams.now) i.0.0 c.loop.leader c.lead_once.new.leader
    c.loop.kept.items c.lead_once.new.kept.items c.loop.teams
    c.lead_once.new.teams c.in-Err.fault i.0.1 e.ended e.same

pub returns-in-Err-clause-stay : goal.returns-in-Err-clause-stay
returns-in-Err-clause-stay g c =
    stay_then c.args.teams.now c.loop.teams c.lead_once.new.teams c.loop.invariant.2 c.lead_once.ensures.stay
