use Rattle.std.proofs.Common.{sym}
use Rattle.script_stepper.proofs.TurnLemmas.{no_comma, first_comma}
use Rattle.script_stepper.proofs.turns.split_comma.Goals as goal

pub returns-in_err-end-clause-split : goal.returns-in_err-end-clause-split
returns-in_err-end-clause-split c = rw c.from_residual.ensures (no_comma c.args.text.now (sym c.in_err-end.ensures))

pub returns-clause-split : goal.returns-clause-split
returns-clause-split c = first_comma c.args.text.now c.in_ok-end.end (sym c.in_ok-end.ensures)
