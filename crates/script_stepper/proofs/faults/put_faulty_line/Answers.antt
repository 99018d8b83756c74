use Rattle.std.proofs.Common.{◌∙◌}
use Rattle.script_stepper.proofs.FaultLines.{same_text, syntax_line}
use Rattle.script_stepper.proofs.faults.put_faulty_line.Goals as goal

pub returns-clause-written : goal.returns-clause-written
returns-clause-written g c =
    same_text c.put_five.result (g.S.Sink.taken c.args.sink.now) (g.S.Sink.taken c.put_five.new.sink) _ _
    (syntax_line c.args.line _ _ _ (c.as_bytes.ensures.value ∙ c.format.ensures.text) c.as_bytes-2.ensures.value)
    c.put_five.ensures.written
