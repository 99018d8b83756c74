-- The numbers of a list name threads.
use Rattle.std.proofs.Common.{◌≡◌, ℕ, ◌+◌, ◌<◌, ◌≤◌, Bool, true, false, cond, not, ◌&&◌, eqb, ltb}
use Rattle.std.proofs.Common.{leb, List, [], ◌∷◌, length, get_or, Some, None, Ok, Err, All, Option}
use Rattle.std.proofs.Common.{Result, sym, refl, subst, arith, ltb-true, leb-true}
use Rattle.script_stepper.proofs.Prelude.{All-cons, All-nil, digits_value, is_comma, is_digit}
use Rattle.script_stepper.proofs.Prelude.{is_turn, list_all, nat_tests, slice_split, turn_at}
use Rattle.script_stepper.proofs.Prelude.{turns_from}
use Rattle.std.specs.Char.{digit_value}
use Rattle.std.proofs.lemmas.Str.{digit_value_digit}
use Rattle.std.proofs.lemmas.Str.Parse.{digits_value-take-le}
use Rattle.script_stepper.specs.TurnLists.{with_first, list_at}

-- a thread's number, from 1
abbrev pub Names : ℕ → ℕ → Type 0
Names threads t = (1 ≤ t) × (t ≤ threads)

and_both : (a b : Bool) → (a && b) ≡ true → (a ≡ true) × (b ≡ true)
and_both true b h = (refl, h)
and_both false b h = absurd cc

first_digit : (b : ℕ) → is_digit b ≡ true → not (eqb b 48) ≡ true → 1 ≤ digit_value b
first_digit b h n =
    let low : 48 ≤ b = grind (arith, nat_tests) in
    let high : b ≤ 57 = grind (arith, nat_tests) in
    let ne : 48 < b = grind (arith, nat_tests) in
    let e = digit_value_digit b (low, high) in
    omega (arith, e, ne)

is_some_number : (w : List ℕ) → 0 < length w → not (eqb (get_or w 0 0) 48) ≡ true → list_all is_digit w ≡ true → 1 ≤ digits_value 10 w
is_some_number [] s n h = absurd (omega arith)
is_some_number (b ∷ bs) s n h =
    let p = and_both (is_digit b) (list_all is_digit bs) h in
    let d = first_digit b p.0 n in
    let k = digits_value-take-le 10 (b ∷ bs) 1 (omega arith) in
    omega (arith, d, k)

is_named : (threads : ℕ) (w : List ℕ) → is_turn threads w ≡ true → Names threads (digits_value 10 w)
is_named threads w e =
    let p = and_both (ltb 0 (length w) && not (eqb (get_or w 0 0) 48) && list_all is_digit w) (leb (digits_value 10 w) threads) e in
    let q = and_both (ltb 0 (length w) && not (eqb (get_or w 0 0) 48)) (list_all is_digit w) p.0 in
    let r = and_both (ltb 0 (length w)) (not (eqb (get_or w 0 0) 48)) q.0 in
    (is_some_number w (ltb-true _ _ r.0) r.1 q.1, leb-true _ _ p.1)

chosen : (threads : ℕ) (w : List ℕ) (b : Bool) (t : ℕ) → (b ≡ true → Names threads (digits_value 10 w))
    → cond b (Some (digits_value 10 w)) None ≡ Some t → Names threads t
chosen threads w true t h e = let same : digits_value 10 w ≡ t = cc in subst (Names threads) same (h refl)
chosen threads w false t h e = absurd cc

turn_named : (threads : ℕ) (w : List ℕ) (t : ℕ) → turn_at threads w ≡ Some t → Names threads t
turn_named threads w t e = chosen threads w (is_turn threads w) t (is_named threads w) e

first_named : (threads place : ℕ) (o : Option ℕ) (r : Result (List ℕ) ℕ) (turns : List ℕ) → ((t : ℕ) → o ≡ Some t → Names threads t)
    → ((ts : List ℕ) → r ≡ Ok ts → All (Names threads) ts) → with_first o place r ≡ Ok turns → All (Names threads) turns
first_named threads place None r turns h k e = absurd cc
first_named threads place (Some t) (Err later) turns h k e = absurd cc
first_named threads place (Some t) (Ok ts) turns h k e =
    let same : t ∷ ts ≡ turns = cc in
    subst (All (Names threads)) same (All-cons (Names threads) t ts (h t refl) (k ts refl))

turns_named : (threads place : ℕ) (words : List (List ℕ)) (turns : List ℕ) → turns_from threads place words ≡ Ok turns → All (Names threads) turns
turns_named threads place [] turns e = let same : [] ≡ turns = cc in subst (All (Names threads)) same (All-nil (Names threads))
turns_named threads place (w ∷ ws) turns e =
    first_named threads place (turn_at threads w) (turns_from threads (place + 1) ws) turns (turn_named threads w)
    (turns_named threads (place + 1) ws) e

-- each number of a list is that of a thread
pub listed_named : (threads : ℕ) (text : List ℕ) (turns : List ℕ) → list_at threads text ≡ Ok turns → All (Names threads) turns
unfolding list_at
listed_named threads [] turns e = let same : [] ≡ turns = cc in subst (All (Names threads)) same (All-nil (Names threads))
listed_named threads (b ∷ bs) turns e = turns_named threads 1 (slice_split is_comma (b ∷ bs)) turns e

pub items_named : (threads n : ℕ) (text turns items : List ℕ) → threads ≡ n → items ≡ turns
    → list_at threads text ≡ Ok turns → All (Names n) items
items_named threads n text turns items e same h =
    subst (λ (k : ℕ). All (Names k) items) e (subst (All (Names threads)) (sym same) (listed_named threads text turns h))
