use Rattle.script_orders.specs.Sorting.{is_closing}
use Rattle.script_orders.proofs.Cutting.{next_line, put_all}
use Rattle.script_orders.proofs.threads.put_closing.Goals as goal

pub loop-line-preserved : goal.loop-line-preserved
loop-line-preserved c =
    next_line is_closing c.is_closing.result c.loop-line.rest.now c.in-Some.line.now c.in-Some.after.now
    c.loop-line.sorted.items c.put_line.new.text.items _ c.in-Some.ensures c.is_closing.ensures
    c.in_ok-put_line.ensures c.loop-line.invariant

pub returns : goal.returns
returns c =
    put_all is_closing c.loop-line.rest.now c.loop-line.sorted.items _ c.in_default.ensures
    c.loop-line.invariant
