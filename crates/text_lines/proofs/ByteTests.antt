-- Tests that each byte of a text passes.
use Rattle.std.proofs.Common.{◌≡◌, ℕ, zero, suc, ◌<◌, Bool, true, false, List, [], ◌∷◌, refl, arith}
use Rattle.std.specs.Prelude.{◌&&◌}
use Rattle.std.specs.List.{list_all}
use Rattle.std.specs.Str.{IsAscii}

pub and_both : (a b : Bool) → (a && b) ≡ true → (a ≡ true) × (b ≡ true)
and_both true b h = (refl, h)
and_both false b h = absurd cc

-- bytes that pass a test that only ASCII passes
pub ascii_from_test : (p : ℕ → Bool) → ((b : ℕ) → p b ≡ true → b < 128) → (bs : List ℕ)
    → list_all p bs ≡ true → IsAscii bs
ascii_from_test p low [] h i = omega arith
ascii_from_test p low (b ∷ bs) h zero = low b (and_both (p b) (list_all p bs) h).0
ascii_from_test p low (b ∷ bs) h (suc i) =
    ascii_from_test p low bs (and_both (p b) (list_all p bs) h).1 i
