use Rattle.script_runner.specs.Telling.{TellsReport}
use Rattle.sptr.proofs.Flushing.{delivers_flushed}
use Rattle.sptr.proofs.answers.run.Goals as goal

pub returns-clause-told : goal.returns-clause-told
returns-clause-told g c =
    delivers_flushed (TellsReport c.args.script.now) c.flushed.result
    (g.O.Write.contents c.args.output.now.writer)
    (g.O.Write.contents c.run_text.new.writer.writer)
    (g.O.Write.contents c.flushed.new.output.writer) c.in_ok-run_text.ensures.holds
    c.flushed.ensures.kept c.flushed.ensures.err
