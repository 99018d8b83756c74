use Rattle.std.proofs.Common.{◌≡◌, ◌+◌}
use Rattle.handle_tests.proofs.foundations.ledger.add.Given as goal

abbrev pub invariant-loop : goal.invariant-loop
invariant-loop l = record {
  book : l.share.book ≡ l.fn.share.book;
  made : l.share.own.made ≡ l.fn.share.own.made + l.counter;
  ended : l.share.own.ended ≡ l.fn.share.own.ended;
}

abbrev pub invariant-loop-2 : goal.invariant-loop-2
invariant-loop-2 l = record {
  book : l.share.book ≡ l.fn.share.book;
  made : l.share.own.made ≡ l.fn.share.own.made + l.made;
  ended : l.share.own.ended ≡ l.fn.share.own.ended + l.counter;
}
