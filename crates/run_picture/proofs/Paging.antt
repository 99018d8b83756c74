-- A page, part by part.
use Rattle.std.proofs.Common.{◌≡◌, ◌∙◌, ℕ, List, ◌++◌, ap}

-- a head, what is made of the lines, and two parts behind it
pub page_is : (f : List ℕ → List ℕ) (head first last lines shown run t0 t1 t2 : List ℕ)
    → lines ≡ run → shown ≡ lines → t0 ≡ head → t1 ≡ t0 ++ f shown → t2 ≡ (t1 ++ first) ++ last
    → t2 ≡ ((head ++ f run) ++ first) ++ last
page_is f head first last lines shown run t0 t1 t2 is same e0 e1 e2 =
    e2
    ∙ ap (λ (t : List ℕ). (t ++ first) ++ last)
    (e1
    ∙ ap (λ (t : List ℕ). t ++ f shown) e0
    ∙ ap (λ (s : List ℕ). head ++ f s) (same ∙ is))
