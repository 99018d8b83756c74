use Rattle.std.proofs.Common.{arith, ltb-true}
use Rattle.step_threads.proofs.Prelude.{heap_items}
use Rattle.step_threads.proofs.Stocks.{peeked_above}
use Rattle.step_threads.proofs.stock.takes_next.Goals as goal

pub returns-in-Some-clause-next : goal.returns-in-Some-clause-next
returns-in-Some-clause-next c =
    λ t.
    let below = ltb-true _ _ t in let block = c.in-Some.block-is in
    let no = c.if-next-end.false in let within = c.requires.within in (
      omega (arith, no, within),
      peeked_above c.in-Some.field-0.now (heap_items c.args.returned.now) c.args.next
          (c.in-Some.ensures.greatest c.requires.ordered) (omega (arith, below, block)),
    )
