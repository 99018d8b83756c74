use Rattle.script_stepper.specs.Runs.{IsFineText, TellsRun}
use Rattle.sptr.proofs.Flushing.{delivers_flushed}
use Rattle.sptr.proofs.answers.fine.Goals as goal

pub returns-clause-told : goal.returns-clause-told
returns-clause-told g c =
    delivers_flushed (TellsRun IsFineText c.args.script.now c.args.turns.now) c.flushed.result
    (g.O.Write.contents c.args.output.now.writer)
    (g.O.Write.contents c.fine_text.new.writer.writer)
    (g.O.Write.contents c.flushed.new.output.writer) c.in_ok-fine_text.ensures.holds
    c.flushed.ensures.kept c.flushed.ensures.err
