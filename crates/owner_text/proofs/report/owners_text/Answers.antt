use Rattle.std.proofs.Common.{string_bytes}
use Rattle.owner_text.proofs.Prelude.{draft_of}
use Rattle.owner_text.proofs.AnswerLemmas.{report_is}
use Rattle.owner_text.proofs.report.owners_text.Goals as goal

pub returns-in-Ok-answer-clause-report : goal.returns-in-Ok-answer-clause-report
returns-in-Ok-answer-clause-report c =
    let reads = c.in-Ok.ensures in
    let n_is = c.in-Some.ensures in
    let found = c.in-Ok-answer.ensures in
    report_is c.args.draws c.args.bytes.now (string_bytes c.in-Ok-answer.report.text)
    c.in-Ok-answer.report.leaks (draft_of c.in-Ok.draft)
    c.in-Some.vertices c.in-Ok-answer.found reads n_is.0 found.found found.says found.leaks
