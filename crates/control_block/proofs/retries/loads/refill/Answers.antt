use Rattle.std.proofs.Common.{◌∙◌, rules}
use Rattle.control_block.proofs.cells.CellTries.{aim_at, holding_at}
use Rattle.control_block.proofs.retries.loads.refill.Goals as goal

pub try_refill-requires-clause-aim : goal.try_refill-requires-clause-aim
try_refill-requires-clause-aim g c = let l = c.loop.invariant in aim_at c.requires.aim l.2 l.3

pub try_refill-requires-clause-holds : goal.try_refill-requires-clause-holds
try_refill-requires-clause-holds g c = let r = c.requires in (r.holds.0, holding_at r.holds.1 c.loop.invariant.3)

pub try_refill-requires-clause-count : goal.try_refill-requires-clause-count
try_refill-requires-clause-count g c = c.requires.count

pub returns-then-try_refill-clause-table : goal.returns-then-try_refill-clause-table
returns-then-try_refill-clause-table g c = c.try_refill.ensures.table ∙ c.loop.invariant.2

pub returns-then-try_refill-clause-same : goal.returns-then-try_refill-clause-same
returns-then-try_refill-clause-same g c = c.try_refill.ensures.same ∙ c.loop.invariant.3

pub loop-preserved : goal.loop-preserved
loop-preserved g c =
    let t = c.try_refill.ensures in let l = c.loop.invariant in (search rules, search rules, t.table ∙ l.2, t.same ∙ l.3)
