-- Names are ASCII.
use Rattle.std.proofs.Common.{◌≡◌, ℕ, zero, suc, ◌<◌, true, ◌&&◌, ltb, List, [], ◌∷◌, length}
use Rattle.std.proofs.Common.{get_or, arith}
use Rattle.script_text.proofs.Prelude.{and_both, is_lower, is_name, is_name_byte, list_all}
use Rattle.script_text.proofs.Prelude.{nat_tests}
use Rattle.std.specs.Str.{IsAscii, IsUtf8}
use Rattle.std.proofs.lemmas.Str.{IsUtf8-from_ascii}
use Rattle.text_lines.proofs.ByteTests.{ascii_from_test}

name_byte_low : (b : ℕ) → is_name_byte b ≡ true → b < 128
name_byte_low b h = grind (arith, nat_tests)

lower_low : (b : ℕ) → is_lower b ≡ true → b < 128
lower_low b h = grind (arith, nat_tests)

pub name_utf8 : (w : List ℕ) → is_name w ≡ true → IsUtf8 w
name_utf8 [] h = absurd cc
name_utf8 (b ∷ bs) h =
    let p = and_both (is_lower b && ltb (length bs) 16) (list_all is_name_byte bs) h in
    let q = and_both (is_lower b) (ltb (length bs) 16) p.0 in
    let at : (i : ℕ) → get_or (b ∷ bs) i 0 < 128 =
    λ i. first_or_rest b bs (lower_low b q.0) (ascii_from_test is_name_byte name_byte_low bs p.1)
    i in
    IsUtf8-from_ascii (b ∷ bs) at
  where
    first_or_rest : (b : ℕ) (bs : List ℕ) → b < 128 → IsAscii bs → (i : ℕ)
        → get_or (b ∷ bs) i 0 < 128
    first_or_rest b bs h k zero = h
    first_or_rest b bs h k (suc i) = k i
