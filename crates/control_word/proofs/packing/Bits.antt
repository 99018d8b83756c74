-- What a test of a bit tells.
use Rattle.std.proofs.Common.{◌≡◌, ℕ, ◌*◌, ◌^◌, Bool, true, false, cond, not, ◌==◌, bit_and, ap}
use Rattle.std.proofs.Common.{◌∙◌, arith, pow_pos, eq-eqb, ne_eqb}
use Rattle.control_word.proofs.Prelude.{bit_at}
use Rattle.std.proofs.lemmas.Nat.Bits.{and_pow}

pub bit_tells : (n j : ℕ) (x : Bool) → bit_at n j ≡ cond x 1 0 → not (bit_and n (2 ^ j) == 0) ≡ x
bit_tells n j x is = go x (and_pow n j ∙ ap (λ m. m * 2 ^ j) is)
  where
    go : (y : Bool) → bit_and n (2 ^ j) ≡ cond y 1 0 * 2 ^ j → not (bit_and n (2 ^ j) == 0) ≡ y
    go true e =
        let p = pow_pos j in
        ap not (ne_eqb (bit_and n (2 ^ j)) 0 (λ z. let q : bit_and n (2 ^ j) ≡ 2 ^ j = omega (arith, e) in absurd (omega arith)))
    go false e = let q : bit_and n (2 ^ j) ≡ 0 = omega (arith, e) in ap not (eq-eqb (bit_and n (2 ^ j)) 0 q)
