-- The rule of a book, which holds between any two steps.
use Rattle.std.specs.Prelude.{◌≡◌, ℕ, ◌*◌, ◌<◌, ◌≤◌, List, [], ◌∷◌, sum_by, All}
use Rattle.atomic_table.specs.Table.{State}
use Rattle.ownership_ledger.specs.declared.share.Totals.{Totals}
use Rattle.ownership_ledger.specs.declared.share.View.{View}

-- a book as plain data: its words, and what each seat at it knows
abbrev pub BookState : Type 0
BookState = State (Unit {0}) View

abbrev pub zeros : Totals
zeros = record { made = 0; ended = 0 }

-- the words that show these totals: a number and seven words that stay 0, twice
abbrev pub totals_words : Totals → List ℕ
totals_words t =
    t.made ∷ 0 ∷ 0 ∷ 0 ∷ 0 ∷ 0 ∷ 0 ∷ 0
    ∷ t.ended ∷ 0 ∷ 0 ∷ 0 ∷ 0 ∷ 0 ∷ 0 ∷ 0 ∷ []

-- how many shares a seat stands for, what they have added, and what the seat has seen of the book
abbrev pub seat_parts : View → ℕ
seat_parts v = v.parts

abbrev pub own_made : View → ℕ
own_made v = v.own.made

abbrev pub own_ended : View → ℕ
own_ended v = v.own.ended

abbrev pub seen_made : View → ℕ
seen_made v = v.seen.made

abbrev pub seen_ended : View → ℕ
seen_ended v = v.seen.ended

-- One of the book's numbers, n. It is the sum of what the shares have added. A share adds at most
-- 4294967295, so that the sum fits its word. No seat has seen more, since the number never falls.
pub record IsNumber (own seen : View → ℕ) (views : List View) (n : ℕ) : Type 0 where
  pub sum : sum_by own views ≡ n
  pub bounded : All (λ v. own v ≤ 4294967295 * v.parts) views
  pub seen_before : All (λ v. seen v ≤ n) views

-- The words show the totals. The seats stand for all the shares together, and each that stands for
-- some of them knows how many there are.
pub record KeptBook (workers : ℕ) (s : BookState) : Type 0 where
  pub totals : Totals
  pub words : s.words ≡ totals_words totals
  pub made : IsNumber own_made seen_made s.views totals.made
  pub ended : IsNumber own_ended seen_ended s.views totals.ended
  pub parts : sum_by seat_parts s.views ≡ workers
  pub known : All (λ v. 0 < v.parts → v.workers ≡ workers) s.views
  pub few : workers < 4294967296

-- a seat that stands for so many of the shares, none of which has added
abbrev pub fresh_seat : (workers parts : ℕ) → View
fresh_seat workers parts =
    record { workers = workers; parts = parts; own = zeros; seen = zeros }

-- a seat that was joined to another
abbrev pub joined_seat : View
joined_seat = fresh_seat 0 0
