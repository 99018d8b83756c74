use Rattle.std.proofs.Common.{refl, ap, ◌∙◌}
use Rattle.script_stepper.proofs.Prelude.{BadTurn, faulty_line, Input, Output, Syntax}
use Rattle.script_stepper.proofs.FaultLines.{same_line, turn_line}
use Rattle.script_stepper.proofs.faults.put_fault.Goals as goal

pub returns-in-Syntax-clause-written : goal.returns-in-Syntax-clause-written
returns-in-Syntax-clause-written g c =
    same_line c.put_faulty_line.result (g.S.Sink.taken c.args.sink.now) (g.S.Sink.taken c.put_faulty_line.new.sink) c.args.fault
    (Syntax c.in-Syntax.line c.in-Syntax.cause) _ c.in-Syntax.is (ap (faulty_line c.in-Syntax.line) c.words.ensures) c.put_faulty_line.ensures.written

pub returns-in-BadTurn-clause-written : goal.returns-in-BadTurn-clause-written
returns-in-BadTurn-clause-written g c =
    let digits = c.as_bytes.ensures.value ∙ c.format.ensures.text in
    same_line c.put_three.result (g.S.Sink.taken c.args.sink.now) (g.S.Sink.taken c.put_three.new.sink) c.args.fault
    (BadTurn c.in-BadTurn.position) _ c.in-BadTurn.is (turn_line _ _ digits) c.put_three.ensures.written

pub returns-in-Output-clause-written : goal.returns-in-Output-clause-written
returns-in-Output-clause-written g c =
    same_line c.put-in-Output.result (g.S.Sink.taken c.args.sink.now) (g.S.Sink.taken c.put-in-Output.new.sink) c.args.fault
    Output _ c.in-Output.is refl c.put-in-Output.ensures.written

pub returns-in-Input-clause-written : goal.returns-in-Input-clause-written
returns-in-Input-clause-written g c =
    same_line c.put-in-Input.result (g.S.Sink.taken c.args.sink.now) (g.S.Sink.taken c.put-in-Input.new.sink) c.args.fault
    Input _ c.in-Input.is refl c.put-in-Input.ensures.written
