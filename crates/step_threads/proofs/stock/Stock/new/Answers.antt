use Rattle.std.proofs.Common.{arith}
use Rattle.step_threads.proofs.Prelude.{heap_items}
use Rattle.step_threads.proofs.Stocks.{all_new}
use Rattle.step_threads.proofs.stock.Stock.new.Goals as goal

pub returns-clause-blocks : goal.returns-clause-blocks
returns-clause-blocks c =
    all_new c.args.first c.args.count (heap_items c.in_ok-returned.returned) _ _ c.in_ok-returned.ensures.items (let f = c.from-next.ensures in f)
    (let f = c.from-next.ensures in let g = c.from.ensures in omega (arith, f, g))
