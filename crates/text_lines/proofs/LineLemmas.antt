-- A text, cut at its line feeds.
use Rattle.std.proofs.Common.{◌≡◌, ℕ, suc, ◌+◌, ◌-◌, ◌<◌, ◌≤◌, Bool, true, false, not, cond, ltb}
use Rattle.std.proofs.Common.{List, [], ◌∷◌, length, take}
use Rattle.std.proofs.Common.{drop, Some, None, refl, ap, arith}
use Rattle.std.specs.List.{position, position_or_len}
use Rattle.std.proofs.lemmas.Bool.{ltb-true, ltb-false, eqb-true}
use Rattle.std.proofs.lemmas.List.{take_rest}
use Rattle.text_lines.specs.Lines.{is_feed, HasNoFeed, IsLineCut}

-- ---- where the first line feed is

pub none_by : (b : Bool) (m : ℕ) → cond b (Some m) None ≡ None → b ≡ false
none_by true m h = absurd cc
none_by false m h = refl

pub some_by : (b : Bool) (m i : ℕ) → cond b (Some m) None ≡ Some i → (b ≡ true) × (m ≡ i)
some_by true m i h = (refl, cc)
some_by false m i h = absurd cc

passed_by : (b : Bool) (x : ℕ) (xs : List ℕ) (m : ℕ) → is_feed x ≡ b
    → suc (length xs) ≤ cond (not b) (1 + m) 0
    → (length xs ≤ m → HasNoFeed xs) → HasNoFeed (x ∷ xs)
passed_by true x xs m is far rest = absurd (omega arith)
passed_by false x xs m is far rest = (is, rest (omega arith))

passed : (xs : List ℕ) → length xs ≤ position_or_len is_feed xs → HasNoFeed xs
passed [] far = tt
passed (x ∷ xs) far = passed_by (is_feed x) x xs (position_or_len is_feed xs) refl far (passed xs)

-- where no line feed is found there is none
pub no_feed : (bytes : List ℕ) → position is_feed bytes ≡ None → HasNoFeed bytes
no_feed bytes h =
    let at : ℕ = position_or_len is_feed bytes in
    passed bytes (ltb-false _ _ (none_by (ltb at (length bytes)) at h))

cut_by : (b : Bool) (x : ℕ) (xs : List ℕ) (m : ℕ) → is_feed x ≡ b
    → (m < length xs → IsLineCut xs (take m xs) (drop (m + 1) xs))
    → cond (not b) (1 + m) 0 < suc (length xs)
    → IsLineCut (x ∷ xs) (take (cond (not b) (1 + m) 0) (x ∷ xs))
    (drop (cond (not b) (1 + m) 0 + 1) (x ∷ xs))
cut_by true x xs m is rest near = record { clean = tt; text = ap (λ b. b ∷ xs) (eqb-true _ _ is) }
cut_by false x xs m is rest near =
    let cut = rest (omega arith) in
    let one : 1 + m ≡ suc m = omega arith in
    let two : suc m + 1 ≡ suc (m + 1) = omega arith in
    rw (one, two) (record { clean = (is, cut.clean); text = ap (λ (bs : List ℕ). x ∷ bs) cut.text })

cut_at : (xs : List ℕ) → position_or_len is_feed xs < length xs
    → IsLineCut xs (take (position_or_len is_feed xs) xs) (drop (position_or_len is_feed xs + 1) xs)
cut_at [] near = absurd (omega arith)
cut_at (x ∷ xs) near = cut_by (is_feed x) x xs (position_or_len is_feed xs) refl (cut_at xs) near

-- where one is found, the bytes are cut there
pub first_cut : (bytes : List ℕ) (i : ℕ) → position is_feed bytes ≡ Some i
    → IsLineCut bytes (take i bytes) (take (length bytes - (i + 1)) (drop (i + 1) bytes))
first_cut bytes i h =
    let at =
    some_by (ltb (position_or_len is_feed bytes) (length bytes)) (position_or_len is_feed bytes) i
    h in
    let cut = cut_at bytes (ltb-true _ _ at.0) in
    rw (← at.1, take_rest bytes (position_or_len is_feed bytes + 1)) cut
