use Rattle.sptr.proofs.Flushing.{left_unflushed}
use Rattle.sptr.proofs.answers.left.Goals as goal

pub returns-in-Err-clause-told : goal.returns-in-Err-clause-told
returns-in-Err-clause-told g c =
    left_unflushed c.args.draws c.args.script.now c.args.turns.now c.in_ok-leaks.leaks
    c.in-Err.fault (g.O.Write.contents c.args.output.now.writer)
    (g.O.Write.contents c.left_text.new.writer.writer)
    (g.O.Write.contents c.flushed.new.output.writer) c.in_ok-leaks.ensures.holds
    c.flushed.ensures.kept c.in-Err.ensures.err
