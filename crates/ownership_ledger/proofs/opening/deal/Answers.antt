use Rattle.std.proofs.Common.{ap, arith, rules}
use Rattle.ownership_ledger.proofs.Parts.{cuts}
use Rattle.ownership_ledger.proofs.opening.deal.Goals as goal

pub split_seat-one-requires : goal.split_seat-one-requires
split_seat-one-requires c =
    let left = c.loop.invariant.left in
    let parts = ap (λ m. m.0.parts) left in
    let made = ap (λ m. m.0.own.made) left in
    let ended = ap (λ m. m.0.own.ended) left in (
      search rules,
      omega (arith, c.book.invariant.words),
      cuts c.book.inside.table.shared.key _ c.loop.seat.me.0 (omega arith) made ended,
    )
