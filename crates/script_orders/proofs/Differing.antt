-- Words of what outcomes differ in.
use Rattle.std.proofs.Common.{◌≡◌, ℕ, ◌<◌, List, [], ◌∷◌, ◌++◌, ap, append-nil, arith, length, sym, ◌∙◌}
use Rattle.std.specs.Prelude.{codes}
use Rattle.std.specs.List.{flat_map}
use Rattle.std.proofs.lemmas.Grind.{flat_map-append}
use Rattle.script_orders.specs.Differences.{AreDifferences, IsDifferLine, spaced}
use Rattle.script_orders.specs.declared.differences.Difference.{Difference}

-- one more
pub words_more : (a b : List ℕ) (d : Difference) → AreDifferences a → b ≡ a ++ spaced d → AreDifferences b
words_more a b d h e = (
  h.0 ++ d ∷ [],
  e ∙ ap (λ (t : List ℕ). t ++ spaced d) h.1
      ∙ ap (λ (t : List ℕ). flat_map spaced h.0 ++ t) (sym (append-nil (spaced d)))
      ∙ sym (flat_map-append spaced h.0 (d ∷ [])),
)

line_by : (words line : List ℕ) (ds : List Difference) → words ≡ flat_map spaced ds → 0 < length words
    → line ≡ codes "differ" ++ words ++ 10 ∷ [] → IsDifferLine line
line_by words line [] is some e = absurd (let n : length words ≡ 0 = ap length is in omega (arith, n, some))
line_by words line (d ∷ ds) is some e =
    (d ∷ ds, e ∙ ap (λ (t : List ℕ). codes "differ" ++ t ++ 10 ∷ []) is)

pub line_of_words : (words line : List ℕ) → AreDifferences words → 0 < length words
    → line ≡ codes "differ" ++ words ++ 10 ∷ [] → IsDifferLine line
line_of_words words line h some e = line_by words line h.0 h.1 some e
