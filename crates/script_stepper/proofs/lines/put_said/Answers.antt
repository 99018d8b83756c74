use Rattle.std.proofs.Common.{◌++◌, string_bytes}
use Rattle.script_stepper.specs.Lines.{answer_text, ended_text, line_of, line_start}
use Rattle.script_stepper.proofs.LineLemmas.{lines_then}
use Rattle.script_stepper.proofs.lines.put_said.Goals as goal

pub returns : goal.returns
returns c =
    let said = c.args.said.now in
    lines_then (line_of (λ a. line_start c.args.thread said.statement ++ answer_text a) said.answer)
    (line_of (λ e. line_start c.args.thread said.statement ++ ended_text e) said.ended) (string_bytes c.args.text.now)
    (string_bytes c.put_answered.new.text) (string_bytes c.put_ending.new.text) c.in_ok-put_answered.ensures c.in_ok-put_ending.ensures
