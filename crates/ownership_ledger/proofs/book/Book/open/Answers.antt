use Rattle.std.proofs.Common.{arith}
use Rattle.ownership_ledger.proofs.Ends.{opens}
use Rattle.ownership_ledger.proofs.book.Book.open.Goals as goal

pub of_words-requires : goal.of_words-requires
of_words-requires c = opens c.args.workers (omega arith)
