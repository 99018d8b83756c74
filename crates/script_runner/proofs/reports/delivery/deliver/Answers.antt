use Rattle.std.proofs.Common.{string_bytes}
use Rattle.script_runner.proofs.Prelude.{TellsReport}
use Rattle.script_runner.proofs.WrittenTexts.{delivered}
use Rattle.script_runner.proofs.reports.delivery.deliver.Goals as goal

pub returns-clause-holds : goal.returns-clause-holds
returns-clause-holds g c =
    delivered (TellsReport c.args.script.now) (string_bytes c.in_ok-text.text) c.as_bytes.result.now c.write_text.result
    (g.S.Sink.taken c.args.writer.now) (g.S.Sink.taken c.write_text.new.writer) c.in_ok-text.ensures c.as_bytes.ensures.value
    c.write_text.ensures.writes c.write_text.ensures.refused
