use Rattle.std.proofs.Common.{string_bytes}
use Rattle.script_runner.proofs.Threads.{report_then}
use Rattle.script_runner.proofs.reports.report.Report.text.Goals as goal

pub returns : goal.returns
returns c =
    report_then c.args.self.now c.args.census.now c.as_slice.result.now (string_bytes c.new-text.result) (string_bytes c.put_threads.new.text)
    (string_bytes c.put_census.new.text) (string_bytes c.put_totals.new.text) c.as_slice.ensures.value c.new-text.ensures.bytes
    c.in_ok-put_threads.ensures c.in_ok-put_census.ensures c.in_ok-put_totals.ensures
