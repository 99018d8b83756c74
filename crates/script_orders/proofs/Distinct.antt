-- Texts that are keys of a map differ.
use Rattle.std.proofs.Common.{◌≡◌, ◌≢◌, ℕ, Bool, true, false, true≢false, List, [], ◌∷◌, sym, ◌∙◌}
use Rattle.std.specs.Global.{Vec}
use Rattle.std.specs.List.{AllByRecursion, IsDistinct}
use Rattle.std.specs.Map.{keys_of}
use Rattle.std.proofs.lemmas.List.Elements.{All-from_recursion}
use Rattle.script_orders.specs.Found.{outcomes_in}
use Rattle.script_orders.specs.Orders.{AllDiffer, texts_of}

apart : (e : Vec ℕ → Vec ℕ → Bool) → ((x y : Vec ℕ) → x.items ≡ y.items → e x y ≡ true)
    → (x : Vec ℕ) (es : List (Vec ℕ × Vec ℕ)) → AllByRecursion (λ y. e x y ≡ false) (keys_of es)
    → AllByRecursion (λ text. x.items ≢ text) (texts_of (outcomes_in es))
apart e same x [] h = tt
apart e same x (p ∷ ps) h = ((λ is. true≢false (sym (same x p.0 is) ∙ h.0)), apart e same x ps h.1)

pub differ : (e : Vec ℕ → Vec ℕ → Bool) → ((x y : Vec ℕ) → x.items ≡ y.items → e x y ≡ true)
    → (es : List (Vec ℕ × Vec ℕ)) → IsDistinct e (keys_of es) → AllDiffer (texts_of (outcomes_in es))
unfolding IsDistinct
differ e same [] h = tt
differ e same (p ∷ ps) h = (All-from_recursion _ _ (apart e same p.0 ps h.0), differ e same ps h.1)
