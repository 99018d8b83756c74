use Rattle.std.specs.Prelude.{option_copied}
use Rattle.sptr.proofs.Flushing.{orders_flushed, orders_unflushed}
use Rattle.sptr.proofs.orders.orders.Goals as goal

pub returns-in-Ok-clause-told : goal.returns-in-Ok-clause-told
returns-in-Ok-clause-told g c =
    orders_flushed (option_copied c.args.query.line) c.args.query.script.now
    c.in_ok-answer.answer (g.O.Write.contents c.args.output.now.writer)
    (g.O.Write.contents c.orders_text.new.writer.writer)
    (g.O.Write.contents c.flushed.new.output.writer) c.in_ok-answer.ensures.holds
    c.flushed.ensures.kept c.outcome_of.result c.outcome_of.ensures

pub returns-in-Err-clause-told : goal.returns-in-Err-clause-told
returns-in-Err-clause-told g c =
    orders_unflushed (option_copied c.args.query.line) c.args.query.script.now
    c.in_ok-answer.answer (g.O.Write.contents c.args.output.now.writer)
    (g.O.Write.contents c.orders_text.new.writer.writer)
    (g.O.Write.contents c.flushed.new.output.writer) c.in_ok-answer.ensures.holds
    c.flushed.ensures.kept c.in-Err.fault c.in-Err.ensures.err
