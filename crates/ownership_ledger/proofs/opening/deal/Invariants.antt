use Rattle.std.proofs.Common.{◌≡◌, ◌+◌, ◌-◌, [], replicate, vec_capacity}
use Rattle.ownership_ledger.proofs.Prelude.{fresh_seat}
use Rattle.ownership_ledger.specs.Now.{new_share}
use Rattle.ownership_ledger.proofs.opening.deal.Given as goal

abbrev pub invariant-loop : goal.invariant-loop
invariant-loop l = record {
  dealt : l.shares.items ≡ replicate (l.counter - 1) (new_share l.book.id l.workers);
  room : vec_capacity l.shares ≡ l.workers;
  table : l.seat.table_id ≡ l.book.id;
  left : l.seat.me ≡ (fresh_seat l.workers (l.workers + 1 - l.counter), []);
}
