-- Numbers of members.
use Rattle.std.proofs.Common.{◌≡◌, ◌∙◌, ◌+◌, ◌*◌, ◌^◌, ◌/◌, ℕ, suc, zero, refl, sym, ap, arith}
use Rattle.std.proofs.Math.Nat.{pow-suc}
use Rattle.std.proofs.lemmas.Nat.{pow-add, shr-shr}

-- three bits a level
pub eight : (l : ℕ) → 2 ^ (3 * l) ≡ 8 ^ l
eight zero = refl
eight (suc l) =
    let three : 3 * suc l ≡ 3 * l + 3 = omega arith in
    let more : 2 ^ (3 * l + 3) ≡ 2 ^ (3 * l) * 2 ^ 3 = pow-add 2 (3 * l) 3 in
    let power : 8 ^ suc l ≡ 8 ^ l * 8 = pow-suc 8 l in
    ap (λ (k : ℕ). 2 ^ k) three ∙ more ∙ ap (λ (x : ℕ). x * 8) (eight l) ∙ sym power

-- a level above the leaves goes by the leaf
by_leaf : (i l : ℕ) → i / 8 ^ suc l ≡ i / 8 / 8 ^ l
by_leaf i l =
    let three : 3 * suc l ≡ 3 + 3 * l = omega arith in
    let shifted : i / 2 ^ 3 / 2 ^ (3 * l) ≡ i / 2 ^ (3 + 3 * l) = shr-shr i 3 (3 * l) in
    ap (λ (x : ℕ). i / x) (sym (eight (suc l)) ∙ ap (λ (k : ℕ). 2 ^ k) three)
    ∙ sym shifted ∙ ap (λ (x : ℕ). i / 8 / x) (eight l)

-- so two indexes of one leaf have one way
pub one_leaf : (i j l : ℕ) → i / 8 ≡ j / 8 → i / 8 ^ suc l ≡ j / 8 ^ suc l
one_leaf i j l same = by_leaf i l ∙ ap (λ (x : ℕ). x / 8 ^ l) same ∙ sym (by_leaf j l)
