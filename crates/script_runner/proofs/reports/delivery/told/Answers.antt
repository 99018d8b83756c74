use Rattle.std.proofs.Common.{string_bytes}
use Rattle.script_runner.proofs.WrittenTexts.{report_text}
use Rattle.script_runner.proofs.reports.delivery.told.Goals as goal

pub returns-in-Ok-text : goal.returns-in-Ok-text
returns-in-Ok-text g c = (
  c.in_ok-script.script,
  c.in_ok-script.ensures.holds,
  report_text c.in_ok-script.script c.in-Ok.ran.0 c.in-Ok.ran.1 c.in-Ok.ran.2 c.close_sole-census.result (string_bytes c.in-Ok-text.text)
      c.in-Ok.ensures.report c.close_sole-census.ensures c.in-Ok-text.ensures,
)
