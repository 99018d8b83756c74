use Rattle.std.proofs.Common.{arith}
use Rattle.step_table.proofs.Filled.{more_filled}
use Rattle.step_table.proofs.memory.words.reach.Goals as goal

pub returns-then-index-len-clause-same : goal.returns-then-index-len-clause-same
returns-then-index-len-clause-same c =
    let far = c.if-index-len.true in
    let more = c.end_of_part.ensures.0 in
    let len = c.len.ensures in
    more_filled c.args.len c.end_of_part.result c.args.words.now.items c.fill.new.words.items
    (omega (arith, far, more, len, c.args.words.now.ok.0)) c.end_of_part.ensures.1 c.fill.ensures.items
