use Rattle.script_orders.specs.Sorting.{begins_with}
use Rattle.script_orders.proofs.Cutting.{next_line, put_all}
use Rattle.script_orders.proofs.threads.put_beginning.Goals as goal

pub loop-line-preserved : goal.loop-line-preserved
loop-line-preserved c =
    next_line (begins_with c.args.start.now) c.starts_with.result c.loop-line.rest.now c.in-Some.line.now c.in-Some.after.now
    c.loop-line.sorted.items c.put_line.new.text.items _ c.in-Some.ensures c.starts_with.ensures.value
    c.in_ok-put_line.ensures c.loop-line.invariant

pub returns : goal.returns
returns c =
    put_all (begins_with c.args.start.now) c.loop-line.rest.now c.loop-line.sorted.items _ c.in_default.ensures
    c.loop-line.invariant
