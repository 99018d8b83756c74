use Rattle.std.proofs.Common.{List}
use Rattle.pointers.proofs.Prelude.{AreTeams, Led, led_by, Stay}
use Rattle.pointers.specs.Leading.{AreSet, led_with}
use Rattle.pointers.proofs.program.leads.lead_on.Given as goal

abbrev pub invariant-loop : goal.invariant-loop
invariant-loop g l =
    ((past : List (Led g.row.P.Denot g.row.V.Denot))
    × AreTeams g.P.Leader.leads g.P.Program.answers (led_by l.initial.leader l.initial.teams) past (led_with l.leader l.kept.items l.teams))
    × AreSet l.teams × Stay l.initial.teams l.teams
