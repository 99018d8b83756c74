-- Numbers are ASCII, and what `parse` answers at a word of digits.
use Rattle.std.proofs.Common.{◌≡◌, ℕ, ◌^◌, ◌<◌, Bool, true, false, cond, ltb, List, rules, length}
use Rattle.std.proofs.Common.{Ok, Err, Some, None, refl}
use Rattle.std.proofs.Common.{subst, arith}
use Rattle.std.specs.Prelude.{◌&&◌}
use Rattle.std.specs.List.{list_all}
use Rattle.std.specs.Str.{IsUtf8}
use Rattle.std.specs.Str.Parse.{digits_value, ParsesUnsigned}
use Rattle.std.proofs.lemmas.Str.{IsUtf8-from_ascii}
use Rattle.std.proofs.lemmas.Str.Parse.{IsNumeralModel, IsDigitsTest, numerals_by_value}
use Rattle.std.proofs.lemmas.Str.Parse.{parse_digits}
use Rattle.std.proofs.lemmas.Bool.Decides.{nat_tests}
use Rattle.std.proofs.lemmas.Bool.{ltb-true, false_from_ne_true}
use Rattle.text_lines.specs.Numbers.{is_digit, is_number, number_in}
use Rattle.text_lines.proofs.ByteTests.{and_both, ascii_from_test}

digit_low : (b : ℕ) → is_digit b ≡ true → b < 128
digit_low b h = grind (arith, nat_tests)

pub digits_utf8 : (w : List ℕ) → list_all is_digit w ≡ true → IsUtf8 w
digits_utf8 w h = IsUtf8-from_ascii w (ascii_from_test is_digit digit_low w h)

-- decimal digits
abbrev pub AreDigits : List ℕ → Type 0
AreDigits ds = list_all is_digit ds ≡ true

are_digits : IsDigitsTest AreDigits
are_digits = search rules

pub numerals : IsNumeralModel AreDigits (digits_value 10)
numerals = numerals_by_value AreDigits are_digits

-- where `parse` fails at digits, they are no number
pub no_number : (w t : List ℕ) → t ≡ w → AreDigits w → ParsesUnsigned {E = ℕ} 64 10 t (Err 0)
    → number_in w ≡ None
no_number w t same h failed =
    let parsed : ParsesUnsigned {E = ℕ} 64 10 w (Err 0) =
    subst (λ (u : List ℕ). ParsesUnsigned {E = ℕ} 64 10 u (Err 0)) same failed in
    let none : is_number w ≡ false = false_from_ne_true (is_number w) (λ t.
    let p = and_both (list_all is_digit w && ltb 0 (length w)) (ltb (digits_value 10 w) (2 ^ 64))
    t in
    let q = and_both (list_all is_digit w) (ltb 0 (length w)) p.0 in
    parse_digits numerals {E = ℕ} 64 w (Err 0) parsed h (ltb-true _ _ q.1, ltb-true _ _ p.1)) in
    rw none refl

-- ---- a reader's number, or its cause

given_by : {C : Type 0} (b : Bool) (m n : ℕ) (cause : C) → Some n ≡ cond b (Some m) None
    → cond b (Ok m) (Err cause) ≡ Ok n
given_by true m n cause h = cc
given_by false m n cause h = absurd cc

refused_by : {C : Type 0} (b : Bool) (m : ℕ) (cause : C) → None ≡ cond b (Some m) None
    → cond b (Ok m) (Err cause) ≡ Err cause
refused_by true m cause h = absurd cc
refused_by false m cause h = refl

pub some_given : {C : Type 0} (w : List ℕ) (n : ℕ) (cause : C) → Some n ≡ number_in w
    → cond (is_number w) (Ok (digits_value 10 w)) (Err cause) ≡ Ok n
some_given w n cause h = given_by (is_number w) (digits_value 10 w) n cause h

pub none_given : {C : Type 0} (w : List ℕ) (cause : C) → None ≡ number_in w
    → cond (is_number w) (Ok (digits_value 10 w)) (Err cause) ≡ Err cause
none_given w cause h = refused_by (is_number w) (digits_value 10 w) cause h
