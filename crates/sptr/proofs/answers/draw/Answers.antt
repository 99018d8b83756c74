use Rattle.sptr.proofs.Flushing.{picture_unflushed}
use Rattle.sptr.proofs.answers.draw.Goals as goal

pub returns-in-Err-clause-told : goal.returns-in-Err-clause-told
returns-in-Err-clause-told g c =
    let order = c.args.order in
    picture_unflushed order.is_fine order.is_page order.part order.script.now order.turns.now
    c.in_ok-is_none.is_none c.in-Err.fault (g.O.Write.contents c.args.output.now.writer)
    (g.O.Write.contents c.draw_text.new.writer.writer)
    (g.O.Write.contents c.flushed.new.output.writer) c.in_ok-is_none.ensures.holds
    c.flushed.ensures.kept c.in-Err.ensures.err
