use Rattle.script_runner.proofs.Teams.{teams_play}
use Rattle.script_runner.proofs.Weaving.{teams_interleave}
use Rattle.script_runner.proofs.laws.team_laws.Goals as goal

pub returns : goal.returns
returns g c = record { plays = teams_play; interleaves = teams_interleave }
