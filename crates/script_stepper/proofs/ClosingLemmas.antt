-- The census, block by block.
use Rattle.std.proofs.Common.{◌≡◌, ℕ, zero, suc, ◌+◌, List, [], ◌∷◌, ◌++◌, sym, ap, ◌∙◌, arith}
use Rattle.script_stepper.proofs.Prelude.{AbstractState, census_lines, closing_lines, ended}
use Rattle.script_stepper.proofs.Prelude.{ended_in, flat_map, flat_map-append, made_in, state_in}
use Rattle.step_threads.specs.Stocks.{from}
use Rattle.script_stepper.specs.Lines.{totals_text}
use Rattle.script_stepper.proofs.LineLemmas.{flat_map-one, lines_then}

from-suc : (b n : ℕ) → from b (suc n) ≡ from b n ++ (b + n) ∷ []
from-suc b zero = let e : b ≡ b + 0 = omega arith in ap (λ (k : ℕ). k ∷ []) e
from-suc b (suc n) =
    let e : suc b + n ≡ b + suc n = omega arith in
    ap (λ (l : List ℕ). b ∷ l) (from-suc (suc b) n ∙ ap (λ (k : ℕ). from (suc b) n ++ k ∷ []) e)

from-more : (b n : ℕ) → from b (n + 1) ≡ from b n ++ (b + n) ∷ []
from-more b n = let e : n + 1 ≡ suc n = omega arith in ap (from b) e ∙ from-suc b n

-- one number more
numbered_more : (f : ℕ → List (List ℕ)) (n : ℕ) → flat_map f (from 1 (n + 1)) ≡ flat_map f (from 1 n) ++ f (n + 1)
numbered_more f n =
    let e : 1 + n ≡ n + 1 = omega arith in
    ap (flat_map f) (from-more 1 n)
    ∙ flat_map-append f (from 1 n) ((1 + n) ∷ [])
    ∙ ap (λ (l : List (List ℕ)). flat_map f (from 1 n) ++ l) (flat_map-one f (1 + n))
    ∙ ap (λ (k : ℕ). flat_map f (from 1 n) ++ f k) e

-- a text that has the lines of the numbers from 1 to n, and then those of the next
pub numbered_then : (f : ℕ → List (List ℕ)) (n : ℕ) (a b c : List ℕ) → b ≡ a ++ ended (flat_map f (from 1 n)) → c ≡ b ++ ended (f (n + 1))
    → c ≡ a ++ ended (flat_map f (from 1 (n + 1)))
numbered_then f n a b c p q =
    lines_then (flat_map f (from 1 n)) (f (n + 1)) a b c p q ∙ ap (λ (l : List (List ℕ)). a ++ ended l) (sym (numbered_more f n))

pub closing_then : (u : AbstractState) (blocks made over : ℕ) (a b c : List ℕ) → blocks ≡ u.extent.shape.blocks → made ≡ made_in u.history
    → over ≡ ended_in u.history
    → b ≡ a ++ ended (census_lines blocks (state_in u)) → c ≡ b ++ ended (totals_text made over ∷ []) → c ≡ a ++ ended (closing_lines u)
closing_then u blocks made over a b c all one two p q =
    lines_then (census_lines blocks (state_in u)) (totals_text made over ∷ []) a b c p q
    ∙ ap (λ (n : ℕ). a ++ ended (census_lines n (state_in u) ++ totals_text made over ∷ [])) all
    ∙ ap (λ (n : ℕ). a ++ ended (census_lines u.extent.shape.blocks (state_in u) ++ totals_text n over ∷ [])) one
    ∙ ap (λ (n : ℕ). a ++ ended (census_lines u.extent.shape.blocks (state_in u) ++ totals_text (made_in u.history) n ∷ [])) two
