-- Numbers that are written out, as the words of a part.
use Rattle.std.proofs.Common.{◌≡◌, ◌∙◌, ◌<◌, ◌^◌, ◌&&◌, ℕ, Bool, true, false, refl, sym, ap}
use Rattle.std.proofs.Common.{ap₂, List, [], ◌∷◌, Some, None, decimal, arith, length, subst}
use Rattle.std.specs.Prelude.{if◌then◌else◌, nat_le, nat_lt}
use Rattle.std.specs.List.{list_all}
use Rattle.std.specs.Char.{digit_value}
use Rattle.std.specs.Str.Parse.{AllDigits, IsNumeral, digits_value, without_leading_plus}
use Rattle.std.proofs.lemmas.Bool.{le-leb, lt-ltb, ltb-true}
use Rattle.std.proofs.lemmas.Fmt.{decimal_is_IsNumeral}
use Rattle.std.proofs.lemmas.Str.Parse.{without_leading_plus_none}
use Rattle.clap.specs.ValueTests.{is_numeral}
use Rattle.clap.proofs.WalkLemmas.{both}
use Rattle.script_picture.specs.declared.part.Part.{Part}
use Rattle.sptr.specs.Parts.{IsPart, all_acts, number_given, number_in, part_between, part_named}

-- ---- a text of digits

digits_pass : (ds : List ℕ) → AllDigits 10 ds → list_all (λ d. nat_lt (digit_value d) 10) ds ≡ true
digits_pass [] h = refl
digits_pass (d ∷ ds) h = rw (lt-ltb (digit_value d) 10 h.0) (digits_pass ds h.1)

digits_from : (ds : List ℕ) → list_all (λ d. nat_lt (digit_value d) 10) ds ≡ true → AllDigits 10 ds
digits_from [] e = tt
digits_from (d ∷ ds) e =
    let parts = both _ _ e in
    (ltb-true _ _ parts.0, digits_from ds parts.1)

numeral_passes : (ds : List ℕ) → IsNumeral 10 ds → is_numeral ds ≡ true
numeral_passes ds h = rw (lt-ltb 0 (length ds) h.0, digits_pass ds h.1) refl

numeral_from : (ds : List ℕ) → is_numeral ds ≡ true → IsNumeral 10 ds
numeral_from ds e =
    let parts = both _ _ e in
    (ltb-true _ _ parts.0, digits_from ds parts.1)

-- digits of a number from 1
number_read : (ds : List ℕ) → IsNumeral 10 ds → 0 < digits_value 10 ds
    → digits_value 10 ds < 2 ^ 32 → number_in ds ≡ Some (digits_value 10 ds)
number_read ds h some few =
    rw (
      numeral_passes ds h,
      lt-ltb 0 (digits_value 10 ds) some,
      lt-ltb (digits_value 10 ds) (2 ^ 32) few,
    ) refl

-- a text that is parsed to a number from 1, or to none
pub number_parsed : (ds : List ℕ) (number : ℕ)
    → (IsNumeral 10 ds × (digits_value 10 ds < 2 ^ 32)) × (number ≡ digits_value 10 ds)
    → 0 < number → Some number ≡ number_in ds
number_parsed ds number h some =
    ap Some h.1
    ∙ sym (number_read ds h.0.0 (subst (λ (n : ℕ). 0 < n) h.1 some) h.0.1)

pub none_parsed : (ds : List ℕ) → (IsNumeral 10 ds × (digits_value 10 ds < 2 ^ 32) → ⊥)
    → None ≡ number_in ds
none_parsed ds none =
    go
    (is_numeral ds && (nat_lt 0 (digits_value 10 ds) && nat_lt (digits_value 10 ds) (2 ^ 32)))
    refl
  where
    go : (b : Bool)
        → (is_numeral ds && (nat_lt 0 (digits_value 10 ds) && nat_lt (digits_value 10 ds) (2 ^ 32)))
        ≡ b
        → None ≡ (if b then Some (digits_value 10 ds) else None)
    go false e = refl
    go true e =
        let parts = both _ _ e in
        absurd (none (numeral_from ds parts.0, ltb-true _ _ (both _ _ parts.1).1))

-- ---- a number that is written out

no_plus : (ds : List ℕ) → IsNumeral 10 ds → without_leading_plus ds ≡ ds
no_plus [] h = refl
no_plus (d ∷ ds) h = without_leading_plus_none (d ∷ ds) (λ is.
    let few : digit_value 43 < 10 = subst (λ (b : ℕ). digit_value b < 10) is h.1.0 in
    absurd (omega (arith, few)))

number_written : (other n : ℕ) → 0 < n → n < 2 ^ 32 → number_given other (Some (decimal n)) ≡ Some n
number_written other n some few =
    let d = decimal_is_IsNumeral n (omega (arith, few)) in
    ap number_in (no_plus (decimal n) d.0)
    ∙ number_read (decimal n) d.0 (subst (λ (k : ℕ). 0 < k) (sym d.1) some)
    (subst (λ (k : ℕ). k < 2 ^ 32) (sym d.1) few)
    ∙ ap Some d.1

pub part_written : (part : Part) → IsPart part
    → part_named (Some (decimal part.first)) (Some (decimal part.last)) ≡ Some part
part_written part h =
    let some = h.0 in
    let le = h.1 in
    let few = h.2 in
    ap₂ part_between (number_written 1 part.first some (omega (arith, le, few)))
    (number_written all_acts.last part.last (omega (arith, some, le)) few)
    ∙ between (nat_le part.first part.last) (le-leb part.first part.last le)
  where
    between : (b : Bool) → b ≡ true → (if b then Some part else None) ≡ Some part
    between b is = rw is refl
