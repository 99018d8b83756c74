use Rattle.std.proofs.Common.{string_bytes}
use Rattle.leak_report.proofs.Prelude.{abstraction}
use Rattle.leak_report.proofs.ReportLemmas.{left_reported}
use Rattle.leak_report.proofs.report.left_of.Goals as goal

pub returns-in-Ok-clause-report : goal.returns-in-Ok-clause-report
returns-in-Ok-clause-report c =
    left_reported c.args.script.now c.args.turns.now (abstraction c.in_ok-end.end.world) c.args.draws c.in-Ok.report.leaks (string_bytes c.in-Ok.report.text)
    c.in_ok-end.ensures.end c.in-Ok.ensures
