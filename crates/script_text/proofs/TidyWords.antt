-- Words of visible characters, joined by single spaces, are read as they are.
use Rattle.std.proofs.Common.{◌≡◌, ℕ, ◌-◌, ◌<◌, Bool, true, false, cond, ◌&&◌, eqb, ltb, List, []}
use Rattle.std.proofs.Common.{◌∷◌, ◌++◌, length, get_or, nat_lt, nat_le, filter, refl, ap, ◌∙◌}
use Rattle.std.proofs.Common.{subst, arith, ltb-true, lt-ltb, eqb-true}
use Rattle.script_text.proofs.Prelude.{after_line, after_words, All-from_recursion, AllByRecursion}
use Rattle.script_text.proofs.Prelude.{and_both, Draft, HasNoFeed, is_clean_byte, is_digit}
use Rattle.script_text.proofs.Prelude.{is_lower, is_name, is_name_byte, line_content, list_all}
use Rattle.script_text.proofs.Prelude.{list_all-append, nat_tests, words_of}
use Rattle.std.specs.List.{slice_split, onto_first, join_with_byte}
use Rattle.std.proofs.lemmas.Bool.{false_from_ne_true}
use Rattle.std.proofs.lemmas.List.Sums.{AllPass-from_list_all}
use Rattle.std.proofs.lemmas.List.Splits.{slice_split_at, slice_split_none}
use Rattle.script_text.specs.Words.{is_space}
use Rattle.script_text.specs.Grammar.{is_feed}

-- a character that can be seen
abbrev pub is_tidy_byte : ℕ → Bool
is_tidy_byte b = nat_le 33 b && nat_le b 126

-- a word of such characters
abbrev pub IsTidy : List ℕ → Type 0
IsTidy w = (0 < length w) × (list_all is_tidy_byte w ≡ true)

tidy_space : (b : ℕ) → is_tidy_byte b ≡ true → is_space b ≡ false
tidy_space b h = grind (arith, nat_tests)

tidy_clean : (b : ℕ) → is_tidy_byte b ≡ true → is_clean_byte b ≡ true
tidy_clean b h = grind (arith, nat_tests)

clean_feed : (b : ℕ) → is_clean_byte b ≡ true → is_feed b ≡ false
clean_feed b h = grind (arith, nat_tests)

name_tidy : (b : ℕ) → is_name_byte b ≡ true → is_tidy_byte b ≡ true
name_tidy b h = grind (arith, nat_tests)

lower_tidy : (b : ℕ) → is_lower b ≡ true → is_tidy_byte b ≡ true
lower_tidy b h = grind (arith, nat_tests)

pub digit_tidy : (b : ℕ) → is_digit b ≡ true → is_tidy_byte b ≡ true
digit_tidy b h = grind (arith, nat_tests)

pub both_true : (a b : Bool) → a ≡ true → b ≡ true → (a && b) ≡ true
both_true true b h k = k
both_true false b h k = absurd cc

pub list_weaker : (p q : ℕ → Bool) → ((b : ℕ) → p b ≡ true → q b ≡ true) → (bs : List ℕ)
    → list_all p bs ≡ true → list_all q bs ≡ true
list_weaker p q h [] k = refl
list_weaker p q h (b ∷ bs) k =
    let s = and_both (p b) (list_all p bs) k in
    both_true (q b) (list_all q bs) (h b s.0) (list_weaker p q h bs s.1)

none_of : (p q : ℕ → Bool) → ((b : ℕ) → p b ≡ true → q b ≡ false) → (bs : List ℕ)
    → list_all p bs ≡ true
    → AllByRecursion (λ b. q b ≡ false) bs
none_of p q h [] k = tt
none_of p q h (b ∷ bs) k =
    let s = and_both (p b) (list_all p bs) k in
    (h b s.0, none_of p q h bs s.1)

pub name_is_tidy : (w : List ℕ) → is_name w ≡ true → IsTidy w
name_is_tidy [] h = absurd cc
name_is_tidy (b ∷ bs) h =
    let p = and_both (is_lower b && ltb (length bs) 16) (list_all is_name_byte bs) h in
    let q = and_both (is_lower b) (ltb (length bs) 16) p.0 in
    let rest = list_weaker is_name_byte is_tidy_byte name_tidy bs p.1 in
    (omega arith, both_true (is_tidy_byte b) (list_all is_tidy_byte bs) (lower_tidy b q.0) rest)

-- words with single spaces between them
abbrev joined : List (List ℕ) → List ℕ
joined ws = join_with_byte 32 ws

kept : (w : List ℕ) (ps : List (List ℕ)) → 0 < length w
    → filter (λ u. nat_lt 0 (length u)) (w ∷ ps) ≡ w ∷ filter (λ u. nat_lt 0 (length u)) ps
kept w ps h = let t : ltb 0 (length w) ≡ true = lt-ltb 0 (length w) h in rw t refl

pub words-joined : (ws : List (List ℕ)) → AllByRecursion IsTidy ws → words_of (joined ws) ≡ ws
words-joined [] h = refl
words-joined (w ∷ []) h =
    let one : slice_split is_space w ≡ w ∷ [] =
    slice_split_none is_space w
    (All-from_recursion (λ b. is_space b ≡ false) w
    (none_of is_tidy_byte is_space tidy_space w h.0.1)) in
    ap (filter (λ u. nat_lt 0 (length u))) one ∙ kept w [] h.0.0
words-joined (w ∷ x ∷ xs) h =
    let cut : slice_split is_space (w ++ 32 ∷ joined (x ∷ xs)) ≡ w ∷ slice_split is_space
    (joined (x ∷ xs)) =
    slice_split_at is_space w 32 (joined (x ∷ xs))
    (All-from_recursion (λ b. is_space b ≡ false) w
    (none_of is_tidy_byte is_space tidy_space w h.0.1))
    refl in
    ap (filter (λ u. nat_lt 0 (length u))) cut
    ∙ kept w (slice_split is_space (joined (x ∷ xs))) h.0.0
    ∙ ap (λ (us : List (List ℕ)). w ∷ us) (words-joined (x ∷ xs) h.1)

pub joined_clean : (ws : List (List ℕ)) → AllByRecursion IsTidy ws
    → list_all is_clean_byte (joined ws) ≡ true
joined_clean [] h = refl
joined_clean (w ∷ []) h = list_weaker is_tidy_byte is_clean_byte tidy_clean w h.0.1
joined_clean (w ∷ x ∷ xs) h =
    list_all-append is_clean_byte w (32 ∷ joined (x ∷ xs))
    ∙ both_true (list_all is_clean_byte w) (list_all is_clean_byte (joined (x ∷ xs)))
    (list_weaker is_tidy_byte is_clean_byte tidy_clean w h.0.1) (joined_clean (x ∷ xs) h.1)

content_same : (t : List ℕ) → list_all is_clean_byte t ≡ true → line_content t ≡ t
content_same t clean =
    let none : (ltb 0 (length t) && eqb (get_or t (length t - 1) 0) 13) ≡ false =
    false_from_ne_true (ltb 0 (length t) && eqb (get_or t (length t - 1) 0) 13) (λ h.
    let p = and_both (ltb 0 (length t)) (eqb (get_or t (length t - 1) 0) 13) h in
    let some : 0 < length t = ltb-true _ _ p.0 in
    let at : is_clean_byte (get_or t (length t - 1) 0) ≡ true =
    AllPass-from_list_all is_clean_byte t clean (length t - 1) 0 (omega arith) in
    let bad : is_clean_byte 13 ≡ true = subst (λ b. is_clean_byte b ≡ true) (eqb-true _ _ p.1) at in
    absurd cc) in
    rw none refl

pub after_tidy_line : (d : Draft) (ws : List (List ℕ)) → AllByRecursion IsTidy ws
    → after_line d (joined ws) ≡ after_words d ws
after_tidy_line d ws h =
    let clean = joined_clean ws h in
    let same = content_same (joined ws) clean in
    rw (same, clean) (ap (after_words d) (words-joined ws h))

pub no_feed_in : (ws : List (List ℕ)) → AllByRecursion IsTidy ws → HasNoFeed (joined ws)
no_feed_in ws h = none_of is_clean_byte is_feed clean_feed (joined ws) (joined_clean ws h)

-- ---- the words of a clean line are tidy

-- characters that can be seen, or none
abbrev IsClear : List ℕ → Type 0
IsClear w = list_all is_tidy_byte w ≡ true

clean_tidy : (b : ℕ) → is_clean_byte b ≡ true → is_space b ≡ false → is_tidy_byte b ≡ true
clean_tidy b h k = grind (arith, nat_tests)

onto_clear : (b : ℕ) (parts : List (List ℕ)) → is_tidy_byte b ≡ true → AllByRecursion IsClear parts
    → AllByRecursion IsClear (onto_first b parts)
onto_clear b [] h each = (both_true (is_tidy_byte b) true h refl, tt)
onto_clear b (p ∷ ps) h each =
    (both_true (is_tidy_byte b) (list_all is_tidy_byte p) h each.0, each.1)

clear_by : (s : Bool) (b : ℕ) (parts : List (List ℕ)) → is_space b ≡ s → is_clean_byte b ≡ true
    → AllByRecursion IsClear parts
    → AllByRecursion IsClear (cond s ([] ∷ parts) (onto_first b parts))
clear_by true b parts is clean each = (refl, each)
clear_by false b parts is clean each = onto_clear b parts (clean_tidy b clean is) each

parts_clear : (line : List ℕ) → list_all is_clean_byte line ≡ true
    → AllByRecursion IsClear (slice_split is_space line)
parts_clear [] h = (refl, tt)
parts_clear (b ∷ bs) h =
    let s = and_both (is_clean_byte b) (list_all is_clean_byte bs) h in
    clear_by (is_space b) b (slice_split is_space bs) refl s.0 (parts_clear bs s.1)

tidy_by : (some : Bool) (w : List ℕ) (ws : List (List ℕ)) → nat_lt 0 (length w) ≡ some → IsClear w
    → AllByRecursion IsTidy ws → AllByRecursion IsTidy (cond some (w ∷ ws) ws)
tidy_by true w ws is clear each = ((ltb-true _ _ is, clear), each)
tidy_by false w ws is clear each = each

filter_tidy : (ws : List (List ℕ)) → AllByRecursion IsClear ws
    → AllByRecursion IsTidy (filter (λ w. nat_lt 0 (length w)) ws)
filter_tidy [] h = tt
filter_tidy (w ∷ ws) h =
    tidy_by (nat_lt 0 (length w)) w (filter (λ u. nat_lt 0 (length u)) ws) refl h.0
    (filter_tidy ws h.1)

pub words_tidy : (line : List ℕ) → list_all is_clean_byte line ≡ true
    → AllByRecursion IsTidy (words_of line)
words_tidy line h = filter_tidy (slice_split is_space line) (parts_clear line h)
