-- The fields of a book and of a share, and what is true of them.
use Rattle.std.specs.Prelude.{◌≡◌, ◌<◌, []}
use Rattle.ownership_ledger.specs.declared.book.Book.TheInside as book
use Rattle.ownership_ledger.specs.declared.share.Share.TheInside as share
use Rattle.ownership_ledger.specs.Now.{BookNow, ShareNow}

abbrev pub book_view : book.Inside → BookNow
book_view b = record { id = b.table.shared.table_id; workers = b.table.shared.key }

-- the table has the sixteen words and no slot
pub record IsBook (b : book.Inside) : Type 0 where
  pub words : b.table.shared.table_id.words ≡ 16
  pub slots : b.table.shared.table_id.slots ≡ 0
  pub some_worker : 0 < b.table.shared.key

abbrev pub share_view : share.Inside → ShareNow
share_view s = record {
  book = s.seat.table_id;
  workers = s.seat.me.0.workers;
  own = s.seat.me.0.own;
  seen = s.seat.me.0.seen;
}

-- the seat stands for one share, and has no slot in hand
pub record IsShare (s : share.Inside) : Type 0 where
  pub one_part : s.seat.me.0.parts ≡ 1
  pub no_slot : s.seat.me.1 ≡ []
