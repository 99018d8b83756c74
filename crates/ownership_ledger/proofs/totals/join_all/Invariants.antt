use Rattle.std.proofs.Common.{◌≡◌, ◌<◌, List, ◌++◌, All}
use Rattle.ownership_ledger.proofs.Prelude.{ShareNow, StandsForShares}
use Rattle.ownership_ledger.proofs.totals.join_all.Given as goal

abbrev pub invariant-loop-other : goal.invariant-loop-other
invariant-loop-other l = record {
  joined : List ShareNow;
  parted : l.fn.shares.items ≡ l.shares.items ++ joined;
  of_book : All (λ s. s.book ≡ l.book.id) l.shares.items;
  table : l.seat.table_id ≡ l.book.id;
  some_part : 0 < l.seat.me.0.parts;
  stands : StandsForShares joined l.seat.me.0;
}

abbrev pub decreases-loop-other : goal.decreases-loop-other
decreases-loop-other l = goal.left-loop-other l
