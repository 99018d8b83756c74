use Rattle.sptr.proofs.Flushing.{page_unflushed}
use Rattle.sptr.proofs.orders.outcome_page.Goals as goal

pub returns-in-Err-clause-told : goal.returns-in-Err-clause-told
returns-in-Err-clause-told g c =
    page_unflushed c.args.script.now c.in_ok-is_none.is_none c.in-Err.fault (g.O.Write.contents c.args.output.now.writer)
    (g.O.Write.contents c.page_text.new.writer.writer)
    (g.O.Write.contents c.flushed.new.output.writer) c.in_ok-is_none.ensures.holds
    c.flushed.ensures.kept c.in-Err.ensures.err
