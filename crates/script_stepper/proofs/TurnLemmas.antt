-- A list, cut at its commas.
use Rattle.std.proofs.Common.{◌≡◌, ℕ, zero, suc, ◌+◌, ◌-◌, ◌^◌, ◌<◌, ◌≤◌, Bool, true, false, cond}
use Rattle.std.proofs.Common.{not, ◌&&◌, eqb, ltb, leb, List, [], ◌∷◌, ◌++◌, length, get_or, take}
use Rattle.std.proofs.Common.{drop, Some, None, Ok, Err, Result, refl, ◌∙◌, subst, arith, rules}
use Rattle.std.proofs.Common.{ltb-false, ltb-true, leb-true}
use Rattle.script_stepper.proofs.Prelude.{digits_value, is_comma, is_digit, is_turn, list_all}
use Rattle.script_stepper.proofs.Prelude.{nat_tests, slice_split, take_rest, turn_at, turns_from}
use Rattle.std.specs.List.{position, position_or_len, onto_first}
use Rattle.std.specs.Str.{IsAscii, IsUtf8}
use Rattle.std.specs.Str.Parse.{ParsesUnsigned}
use Rattle.std.proofs.lemmas.Bool.{false_from_ne_true}
use Rattle.std.proofs.lemmas.List.Splits.{slice_split_first}
use Rattle.std.proofs.lemmas.Str.{IsUtf8-from_ascii}
use Rattle.std.proofs.lemmas.Str.Parse.{IsNumeralModel, numerals_by_value, parse_digits}
use Rattle.script_stepper.specs.TurnLists.{list_at}

-- where nothing passes, the list is the one part
one_by : (b : Bool) (x : ℕ) (xs : List ℕ) (m : ℕ) → suc (length xs) ≤ cond (not b) (1 + m) 0
    → (length xs ≤ m → slice_split is_comma xs ≡ xs ∷ [])
    → cond b ([] ∷ slice_split is_comma xs) (onto_first x (slice_split is_comma xs)) ≡ (x ∷ xs) ∷ []
one_by true x xs m h rest = absurd (omega arith)
one_by false x xs m h rest = rw (rest (omega arith)) refl

one_part : (xs : List ℕ) → length xs ≤ position_or_len is_comma xs → slice_split is_comma xs ≡ xs ∷ []
one_part [] h = refl
one_part (x ∷ xs) h = one_by (is_comma x) x xs (position_or_len is_comma xs) h (one_part xs)

chosen : (b : Bool) (m : ℕ) → cond b (Some m) None ≡ None → b ≡ false
chosen true m h = absurd cc
chosen false m h = refl

chosen_at : (b : Bool) (m i : ℕ) → cond b (Some m) None ≡ Some i → (b ≡ true) × (m ≡ i)
chosen_at true m i h = (refl, cc)
chosen_at false m i h = absurd cc

pub no_comma : (xs : List ℕ) → position is_comma xs ≡ None → slice_split is_comma xs ≡ xs ∷ []
no_comma xs h = one_part xs (ltb-false _ _ (chosen (ltb (position_or_len is_comma xs) (length xs)) (position_or_len is_comma xs) h))

pub first_comma : (xs : List ℕ) (i : ℕ) → position is_comma xs ≡ Some i
    → slice_split is_comma xs ≡ take i xs ∷ slice_split is_comma (take (length xs - (i + 1)) (drop (i + 1) xs))
first_comma xs i h =
    let at = chosen_at (ltb (position_or_len is_comma xs) (length xs)) (position_or_len is_comma xs) i h in
    let cut : slice_split is_comma xs ≡ take (position_or_len is_comma xs) xs ∷ slice_split is_comma (drop (position_or_len is_comma xs + 1) xs) =
    slice_split_first is_comma xs 0 (ltb-true _ _ at.0) in
    cut ∙ rw (at.1, take_rest xs (i + 1)) refl

and_both : (a b : Bool) → (a && b) ≡ true → (a ≡ true) × (b ≡ true)
and_both true b h = (refl, h)
and_both false b h = absurd cc

digits_low : (bs : List ℕ) → list_all is_digit bs ≡ true → IsAscii bs
digits_low [] h i = omega arith
digits_low (b ∷ bs) h zero = let p = (and_both (is_digit b) (list_all is_digit bs) h).0 in grind (arith, nat_tests)
digits_low (b ∷ bs) h (suc i) = digits_low bs (and_both (is_digit b) (list_all is_digit bs) h).1 i

pub digits_utf8 : (w : List ℕ) → list_all is_digit w ≡ true → IsUtf8 w
digits_utf8 w h = IsUtf8-from_ascii w (digits_low w h)

abbrev pub AreDigits : List ℕ → Type 0
AreDigits ds = list_all is_digit ds ≡ true

pub numerals : IsNumeralModel AreDigits (digits_value 10)
numerals = numerals_by_value AreDigits (search rules)

-- what is read before, and then the rest
abbrev pub with_front : List ℕ → Result (List ℕ) ℕ → Result (List ℕ) ℕ
with_front front (Ok turns) = Ok (front ++ turns)
with_front front (Err place) = Err place

pub front_none : (r : Result (List ℕ) ℕ) → with_front [] r ≡ r
front_none (Ok ts) = refl
front_none (Err k) = refl

pub list_some : (threads : ℕ) (text : List ℕ) → 0 < length text
    → with_front [] (turns_from threads 1 (slice_split is_comma text)) ≡ list_at threads text
unfolding list_at
list_some threads [] h = absurd (omega arith)
list_some threads (b ∷ bs) h = front_none (turns_from threads 1 (slice_split is_comma (b ∷ bs)))

pub list_none : (threads : ℕ) (text : List ℕ) → length text ≡ 0 → list_at threads text ≡ Ok []
unfolding list_at
list_none threads [] h = refl
list_none threads (b ∷ bs) h = absurd (omega arith)

-- where `parse` fails at digits, they name no thread
pub no_turn : (threads : ℕ) (w t : List ℕ) → threads < 2 ^ 8 → t ≡ w → AreDigits w → ParsesUnsigned {E = ℕ} 8 10 t (Err 0)
    → None ≡ turn_at threads w
no_turn threads w t low same h failed =
    let parsed : ParsesUnsigned {E = ℕ} 8 10 w (Err 0) = subst (λ (u : List ℕ). ParsesUnsigned {E = ℕ} 8 10 u (Err 0)) same failed in
    let none : is_turn threads w ≡ false = false_from_ne_true (is_turn threads w) (λ e.
    let p = and_both (ltb 0 (length w) && not (eqb (get_or w 0 0) 48) && list_all is_digit w) (leb (digits_value 10 w) threads) e in
    let q = and_both (ltb 0 (length w) && not (eqb (get_or w 0 0) 48)) (list_all is_digit w) p.0 in
    let r = and_both (ltb 0 (length w)) (not (eqb (get_or w 0 0) 48)) q.0 in
    let small : digits_value 10 w ≤ threads = leb-true _ _ p.1 in
    parse_digits numerals {E = ℕ} 8 w (Err 0) parsed h (ltb-true _ _ r.0, omega (arith, small, low))) in
    rw none refl
