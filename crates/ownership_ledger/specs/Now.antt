-- What contracts see of a book and its shares.
use Rattle.std.specs.Prelude.{◌≡◌, ℕ, ◌+◌, ◌≤◌, List, length, sum_by, All}
use Rattle.atomic_table.specs.Seated.{TableId}
use Rattle.ownership_ledger.specs.declared.share.Totals.{Totals}
use Rattle.ownership_ledger.specs.declared.share.View.{View}
use Rattle.ownership_ledger.specs.Rule.{zeros}

pub record BookNow : Type 0 where
  pub id : TableId
  pub workers : ℕ

-- a share of the book, which has so many: what it has added, and what it last saw of each number
-- of the book
pub record ShareNow : Type 0 where
  pub book : TableId
  pub workers : ℕ
  pub own : Totals
  pub seen : Totals

abbrev pub new_share : TableId → ℕ → ShareNow
new_share book workers =
    record { book = book; workers = workers; own = zeros; seen = zeros }

abbrev pub IsSameShare : ShareNow → ShareNow → Type 0
IsSameShare s s' = (s'.book ≡ s.book) × (s'.workers ≡ s.workers)

abbrev pub one_more_made : Totals → Totals
one_more_made t = record t { made = t.made + 1 }

abbrev pub one_more_ended : Totals → Totals
one_more_ended t = record t { ended = t.ended + 1 }

abbrev pub IsAtMost : Totals → Totals → Type 0
IsAtMost t u = (t.made ≤ u.made) × (t.ended ≤ u.ended)

-- the view of a seat into which all these shares were joined
pub record StandsForShares (shares : List ShareNow) (v : View) : Type 0 where
  pub parts : v.parts ≡ length shares
  pub made : v.own.made ≡ sum_by (λ s. s.own.made) shares
  pub ended : v.own.ended ≡ sum_by (λ s. s.own.ended) shares
  pub seen : All (λ s. IsAtMost s.seen v.seen) shares
