-- What was read of numbers is read again from its decimal text.
use Rattle.std.proofs.Common.{◌≡◌, ℕ, ◌^◌, ◌<◌, true, ◌&&◌, ltb, List, [], ◌∷◌, map, length}
use Rattle.std.proofs.Common.{slice_get, Some, None, Ok, decimal, Option, Result, sym, refl, subst}
use Rattle.std.proofs.Common.{lit<, ltb-true, lt-ltb}
use Rattle.script_text.proofs.Prelude.{AllByRecursion, and_both, BadNumber, Cause, digits_decimal}
use Rattle.script_text.proofs.Prelude.{is_digit, list_all, number_at, numerals, ◌>>=◌}
use Rattle.std.specs.Str.Parse.{digits_value}
use Rattle.std.proofs.lemmas.Fmt.{digits_value-decimal, decimal_nonempty}
use Rattle.script_text.specs.Words.{is_number}
use Rattle.script_text.specs.Shapes.{number_if, number_or_zero, fields_at}
use Rattle.script_text.proofs.TidyWords.{IsTidy, is_tidy_byte, digit_tidy, both_true, list_weaker}
use Rattle.script_text.proofs.ReadNames.{both_give, same_given, if_given}

-- ---- one number

number_bound : (word : List ℕ) (n : ℕ) → number_at word ≡ Ok n → n < 2 ^ 64
number_bound word n h =
    let g = if_given (is_number word) BadNumber (digits_value 10 word) n h in
    let p =
    and_both (list_all is_digit word && ltb 0 (length word)) (ltb (digits_value 10 word) (2 ^ 64))
    g.0 in
    rw (← g.1) (ltb-true _ _ p.1)

if_bound : (o : Option (List ℕ)) (n : ℕ) → number_if o ≡ Ok n → n < 2 ^ 64
if_bound None n h = let e : 0 ≡ n = same_given 0 n h in rw (← e) (lit< tt)
if_bound (Some word) n h = number_bound word n h

pub decimal_reads : (n : ℕ) → n < 2 ^ 64 → number_at (decimal n) ≡ Ok n
decimal_reads n fits =
    let digits : list_all is_digit (decimal n) ≡ true = digits_decimal numerals n fits in
    let some : ltb 0 (length (decimal n)) ≡ true =
    lt-ltb 0 (length (decimal n)) (decimal_nonempty n fits) in
    let value : digits_value 10 (decimal n) ≡ n = digits_value-decimal numerals n fits in
    let below : ltb n (2 ^ 64) ≡ true = lt-ltb n (2 ^ 64) fits in
    let number : is_number (decimal n) ≡ true =
    both_true (list_all is_digit (decimal n) && ltb 0 (length (decimal n)))
    (ltb (digits_value 10 (decimal n)) (2 ^ 64))
    (both_true (list_all is_digit (decimal n)) (ltb 0 (length (decimal n))) digits some)
    (rw value below) in
    rw (number, value) refl

pub decimal_tidy : (n : ℕ) → n < 2 ^ 64 → IsTidy (decimal n)
decimal_tidy n fits =
    let digits : list_all is_digit (decimal n) ≡ true = digits_decimal numerals n fits in
    (decimal_nonempty n fits, list_weaker is_digit is_tidy_byte digit_tidy (decimal n) digits)

-- ---- four fields

-- four numbers, each below 2 ^ 64
pub record AreFields (fields : List ℕ) : Type 0 where
  pub a : ℕ
  pub b : ℕ
  pub c : ℕ
  pub d : ℕ
  pub are : fields ≡ a ∷ b ∷ c ∷ d ∷ []
  pub fits_a : a < 2 ^ 64
  pub fits_b : b < 2 ^ 64
  pub fits_c : c < 2 ^ 64
  pub fits_d : d < 2 ^ 64

-- four numbers
abbrev list_of : ℕ → ℕ → ℕ → ℕ → List ℕ
list_of a b c d = a ∷ b ∷ c ∷ d ∷ []

-- the readings after the third, the second and the first number
abbrev after_third : List (List ℕ) → ℕ → ℕ → ℕ → Result (List ℕ) Cause
after_third words a b c = number_or_zero words 3 >>= λ d. Ok (list_of a b c d)

abbrev after_second : List (List ℕ) → ℕ → ℕ → Result (List ℕ) Cause
after_second words a b = number_or_zero words 2 >>= λ c. after_third words a b c

abbrev after_first : List (List ℕ) → ℕ → Result (List ℕ) Cause
after_first words a = number_or_zero words 1 >>= λ b. after_second words a b

pub are_fields : (words : List (List ℕ)) (fields : List ℕ) → fields_at words ≡ Ok fields
    → AreFields fields
unfolding fields_at
are_fields words fields h =
    let p = both_give (number_or_zero words 0) (λ a. after_first words a) fields h in
    let q = both_give (number_or_zero words 1) (λ b. after_second words p.value b) fields
    p.second in
    let r = both_give (number_or_zero words 2) (λ c. after_third words p.value q.value c) fields
    q.second in
    let s =
    both_give (number_or_zero words 3) (λ d. Ok (list_of p.value q.value r.value d)) fields
    r.second in
    record {
      a = p.value;
      b = q.value;
      c = r.value;
      d = s.value;
      are = sym (same_given (list_of p.value q.value r.value s.value) fields s.second);
      fits_a = if_bound (slice_get words 0) p.value p.first;
      fits_b = if_bound (slice_get words 1) q.value q.first;
      fits_c = if_bound (slice_get words 2) r.value r.first;
      fits_d = if_bound (slice_get words 3) s.value s.first;
    }

pub fields_again : (fields : List ℕ) → AreFields fields → fields_at (map decimal fields) ≡ Ok fields
unfolding fields_at
fields_again fields x =
    let P : List ℕ → Type 0 = λ f. fields_at (map decimal f) ≡ Ok f in
    subst P (sym x.are)
    (rw (
      decimal_reads x.a x.fits_a,
      decimal_reads x.b x.fits_b,
      decimal_reads x.c x.fits_c,
      decimal_reads x.d x.fits_d,
    ) refl)

pub fields_tidy : (fields : List ℕ) → AreFields fields → AllByRecursion IsTidy (map decimal fields)
fields_tidy fields x =
    subst (λ (f : List ℕ). AllByRecursion IsTidy (map decimal f)) (sym x.are) (
      decimal_tidy x.a x.fits_a,
      (
        decimal_tidy x.b x.fits_b,
        (decimal_tidy x.c x.fits_c, (decimal_tidy x.d x.fits_d, tt)),
      ),
    )

pub fields_size : (fields : List ℕ) → AreFields fields → length (map decimal fields) ≡ 4
fields_size fields x = subst (λ (f : List ℕ). length (map decimal f) ≡ 4) (sym x.are) refl
