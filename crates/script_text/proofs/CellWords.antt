-- A word, cut at its first dot, and members spelled and read again.
use Rattle.std.proofs.Common.{◌≡◌, ℕ, zero, suc, ◌+◌, ◌-◌, ◌<◌, ◌≤◌, Bool, true, false, cond, not}
use Rattle.std.proofs.Common.{◌&&◌, ltb, List, [], ◌∷◌, ◌++◌, length, take, drop, Some, None, Ok}
use Rattle.std.proofs.Common.{Err, codes, refl, ◌∙◌, arith, ltb-false, ltb-true}
use Rattle.script_text.proofs.Prelude.{and_both, BadCell, bytes_eq, is_digit, is_lower, is_name}
use Rattle.script_text.proofs.Prelude.{is_name_byte, list_all, list_all-append, member_text}
use Rattle.script_text.proofs.Prelude.{nat_tests, position, position_or_len, split_dot, take_rest}
use Rattle.script_text.specs.Cells.{is_dot, member_number_at}
use Rattle.text_lines.proofs.LineLemmas.{none_by, some_by}
use Rattle.script_text.proofs.ReadNames.{same_given}
use Rattle.script_text.proofs.TidyWords.{IsTidy, both_true, is_tidy_byte, name_is_tidy}

-- ---- where the first dot is

none_past : (b : Bool) (x : ℕ) (xs : List ℕ) (m : ℕ) → is_dot x ≡ b
    → suc (length xs) ≤ cond (not b) (1 + m) 0
    → (length xs ≤ m → split_dot xs ≡ None) → split_dot (x ∷ xs) ≡ None
none_past true x xs m is far rest = absurd (omega arith)
none_past false x xs m is far rest =
    let e : split_dot xs ≡ None = rest (omega arith) in rw (is, e) refl

none_far : (xs : List ℕ) → length xs ≤ position_or_len is_dot xs → split_dot xs ≡ None
none_far [] far = refl
none_far (x ∷ xs) far = none_past (is_dot x) x xs (position_or_len is_dot xs) refl far (none_far xs)

-- where no dot is found the word isn't cut
pub no_dot : (word : List ℕ) → position is_dot word ≡ None → split_dot word ≡ None
no_dot word h =
    let at : ℕ = position_or_len is_dot word in
    none_far word (ltb-false _ _ (none_by (ltb at (length word)) at h))

cut_by : (b : Bool) (x : ℕ) (xs : List ℕ) (m : ℕ) → is_dot x ≡ b
    → (m < length xs → split_dot xs ≡ Some (take m xs, drop (m + 1) xs))
    → cond (not b) (1 + m) 0 < suc (length xs)
    → split_dot (x ∷ xs) ≡ Some (
      take (cond (not b) (1 + m) 0) (x ∷ xs),
      drop
          (cond (not b) (1 + m) 0 + 1) (x ∷ xs),
    )
cut_by true x xs m is rest near = rw is refl
cut_by false x xs m is rest near =
    let e : split_dot xs ≡ Some (take m xs, drop (m + 1) xs) = rest (omega arith) in
    let one : 1 + m ≡ suc m = omega arith in
    let two : suc m + 1 ≡ suc (m + 1) = omega arith in
    rw (one, two, is, e) refl

cut_at : (xs : List ℕ) → position_or_len is_dot xs < length xs
    → split_dot xs ≡ Some (
      take (position_or_len is_dot xs) xs,
      drop (position_or_len is_dot xs + 1)
          xs,
    )
cut_at [] near = absurd (omega arith)
cut_at (x ∷ xs) near = cut_by (is_dot x) x xs (position_or_len is_dot xs) refl (cut_at xs) near

-- where one is found, the word is cut there
pub dot_cut : (word : List ℕ) (i : ℕ) → position is_dot word ≡ Some i
    → split_dot word ≡ Some (take i word, take (length word - (i + 1)) (drop (i + 1) word))
dot_cut word i h =
    let at = some_by (ltb (position_or_len is_dot word) (length word)) (position_or_len is_dot word)
    i h in
    let cut = cut_at word (ltb-true _ _ at.0) in
    rw (← at.1, take_rest word (position_or_len is_dot word + 1)) cut

-- ---- words without a dot before it

lower_name : (b : ℕ) → is_lower b ≡ true → is_name_byte b ≡ true
lower_name b h = grind (arith, nat_tests)

name_dot : (b : ℕ) → is_name_byte b ≡ true → is_dot b ≡ false
name_dot b h = grind (arith, nat_tests)

pub digit_dot : (b : ℕ) → is_digit b ≡ true → is_dot b ≡ false
digit_dot b h = grind (arith, nat_tests)

-- bytes that pass a test that no dot passes aren't cut
pub uncut : (p : ℕ → Bool) → ((b : ℕ) → p b ≡ true → is_dot b ≡ false) → (bs : List ℕ)
    → list_all p bs ≡ true
    → split_dot bs ≡ None
uncut p h [] k = refl
uncut p h (b ∷ bs) k =
    let s = and_both (p b) (list_all p bs) k in
    let dot : is_dot b ≡ false = h b s.0 in
    let rest : split_dot bs ≡ None = uncut p h bs s.1 in
    rw (dot, rest) refl

-- and after them comes the first dot
cut_after : (p : ℕ → Bool) → ((b : ℕ) → p b ≡ true → is_dot b ≡ false) → (bs rest : List ℕ)
    → list_all p bs ≡ true
    → split_dot (bs ++ 46 ∷ rest) ≡ Some (bs, rest)
cut_after p h [] rest k = refl
cut_after p h (b ∷ bs) rest k =
    let s = and_both (p b) (list_all p bs) k in
    let dot : is_dot b ≡ false = h b s.0 in
    let cut : split_dot (bs ++ 46 ∷ rest) ≡ Some (bs, rest) = cut_after p h bs rest s.1 in
    rw (dot, cut) refl

name_bytes : (w : List ℕ) → is_name w ≡ true → list_all is_name_byte w ≡ true
name_bytes [] h = refl
name_bytes (b ∷ bs) h =
    let p = and_both (is_lower b && ltb (length bs) 16) (list_all is_name_byte bs) h in
    let q = and_both (is_lower b) (ltb (length bs) 16) p.0 in
    both_true (is_name_byte b) (list_all is_name_byte bs) (lower_name b q.0) p.1

-- a name, a dot and what follows are cut there
pub name_cut : (w rest : List ℕ) → is_name w ≡ true → split_dot (w ++ 46 ∷ rest) ≡ Some (w, rest)
name_cut w rest h = cut_after is_name_byte name_dot w rest (name_bytes w h)

-- ---- members

three_by : (a b c : Bool) (m : ℕ)
    → cond a (Ok 0) (cond b (Ok 1) (cond c (Ok 2) (Err BadCell))) ≡ Ok m → m < 3
three_by true b c m h = let e : 0 ≡ m = same_given 0 m h in omega (arith, e)
three_by false true c m h = let e : 1 ≡ m = same_given 1 m h in omega (arith, e)
three_by false false true m h = let e : 2 ≡ m = same_given 2 m h in omega (arith, e)
three_by false false false m h = absurd cc

pub member_below : (word : List ℕ) (m : ℕ) → member_number_at word ≡ Ok m → m < 3
unfolding member_number_at
member_below word m h =
    three_by (bytes_eq word (codes "first")) (bytes_eq word (codes "next"))
    (bytes_eq word (codes "up")) m h

pub member_again : (m : ℕ) → m < 3 → member_number_at (member_text m) ≡ Ok m
unfolding member_number_at
member_again zero h = refl
member_again (suc zero) h = refl
member_again (suc (suc zero)) h = refl
member_again (suc (suc (suc m))) h = absurd (omega arith)

member_tidy : (m : ℕ) → m < 3 → list_all is_tidy_byte (member_text m) ≡ true
member_tidy zero h = refl
member_tidy (suc zero) h = refl
member_tidy (suc (suc zero)) h = refl
member_tidy (suc (suc (suc m))) h = absurd (omega arith)

-- a name, a dot and a member make one word
pub dotted_tidy : (w : List ℕ) (m : ℕ) → is_name w ≡ true → m < 3 → IsTidy (w ++ 46 ∷ member_text m)
dotted_tidy [] m name below = absurd cc
dotted_tidy (b ∷ bs) m name below =
    let w : List ℕ = b ∷ bs in
    let tidy = name_is_tidy w name in (
      omega arith,
      list_all-append is_tidy_byte w (46 ∷ member_text m)
          ∙ both_true (list_all is_tidy_byte w) (list_all is_tidy_byte (46 ∷ member_text m)) tidy.1
          (member_tidy m below),
    )
