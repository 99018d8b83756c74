-- Labels are ASCII, and which numbers an object may have.
use Rattle.std.proofs.Common.{◌≡◌, ℕ, ◌<◌, true, List, arith}
use Rattle.owner_text.proofs.Prelude.{nat_tests}
use Rattle.std.specs.List.{list_all}
use Rattle.std.specs.Str.{IsUtf8}
use Rattle.std.proofs.lemmas.Str.{IsUtf8-from_ascii}
use Rattle.text_lines.proofs.ByteTests.{ascii_from_test}
use Rattle.owner_text.specs.Words.{is_label_byte}

label_low : (b : ℕ) → is_label_byte b ≡ true → b < 128
label_low b h = grind (arith, nat_tests)

pub label_utf8 : (w : List ℕ) → list_all is_label_byte w ≡ true → IsUtf8 w
label_utf8 w h = IsUtf8-from_ascii w (ascii_from_test is_label_byte label_low w h)
