-- What each step on the book tells, and how seats are cut and joined.
use Rattle.std.specs.Prelude.{◌≡◌, ℕ, ◌+◌, ◌-◌, ◌≤◌, max}
use Rattle.atomic_table.specs.Table.{Me, Step}
use Rattle.ownership_ledger.specs.declared.share.Totals.{Totals}
use Rattle.ownership_ledger.specs.declared.share.View.{View}
use Rattle.ownership_ledger.specs.Now.{one_more_made, one_more_ended}
use Rattle.ownership_ledger.specs.Rule.{fresh_seat}

abbrev At : Type 0
At = Step (Unit {0})

abbrev Sat : Type 0
Sat = Me (Unit {0}) View

-- the view after its own add, which found n
abbrev pub plus_made : ℕ → View → View
plus_made n v =
    record v { own = one_more_made v.own; seen = record v.seen { made = n + 1 } }

abbrev pub plus_ended : ℕ → View → View
plus_ended n v =
    record v { own = one_more_ended v.own; seen = record v.seen { ended = n + 1 } }

-- the view after a look that found n
abbrev pub saw_made : ℕ → View → View
saw_made n v = record v { seen = record v.seen { made = n } }

abbrev pub saw_ended : ℕ → View → View
saw_ended n v = record v { seen = record v.seen { ended = n } }

abbrev pub added_made : At → Sat → ℕ → Sat → Type 0
added_made st m n m' = (m' ≡ (plus_made n m.0, m.1)) × (m.0.seen.made ≤ n)

abbrev pub added_ended : At → Sat → ℕ → Sat → Type 0
added_ended st m n m' = (m' ≡ (plus_ended n m.0, m.1)) × (m.0.seen.ended ≤ n)

-- n is at least what the seat's shares have added and what it saw before, and it is just what they
-- have added where the seat stands for all shares
abbrev pub ShowsNumber : View → (own seen n : ℕ) → Type 0
ShowsNumber v own seen n = (own ≤ n) × (seen ≤ n) × (v.parts ≡ v.workers → n ≡ own)

abbrev pub read_made : At → Sat → ℕ → Sat → Type 0
read_made st m n m' =
    (m' ≡ (saw_made n m.0, m.1)) × ShowsNumber m.0 m.0.own.made m.0.seen.made n

abbrev pub read_ended : At → Sat → ℕ → Sat → Type 0
read_ended st m n m' =
    (m' ≡ (saw_ended n m.0, m.1)) × ShowsNumber m.0 m.0.own.ended m.0.seen.ended n

abbrev pub without_one : View → View
without_one v = record v { parts = v.parts - 1 }

abbrev pub one_apart : View → View
one_apart v = fresh_seat v.workers 1

abbrev pub sum_of : Totals → Totals → Totals
sum_of t u = record { made = t.made + u.made; ended = t.ended + u.ended }

abbrev pub most_of : Totals → Totals → Totals
most_of t u = record { made = max t.made u.made; ended = max t.ended u.ended }

abbrev pub seats_together : View → View → View
seats_together v w = record {
  workers = v.workers;
  parts = v.parts + w.parts;
  own = sum_of v.own w.own;
  seen = most_of v.seen w.seen;
}
