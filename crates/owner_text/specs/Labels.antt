-- Labels and their numbers. All of it is own.
use Rattle.std.specs.Prelude.{ℕ, ◌+◌, List, [], ◌∷◌, ◌++◌, map, length, if◌then◌else◌, slice_get}
use Rattle.std.specs.Prelude.{Some, None, Option, String}
use Rattle.owner_text.specs.Prelude.{bytes_eq}
use Rattle.std.specs.Option.{option_map}
use Rattle.std.specs.String.{string_bytes}

-- the labels of a table
abbrev pub labels_in : {A : Type 0} → List (String A × Unit {0}) → List (List ℕ)
labels_in entries = map (λ e. string_bytes e.0) entries

-- a label's number
abbrev pub find_label : List ℕ → List (List ℕ) → Option ℕ
find_label label [] = None
find_label label (l ∷ ls) =
    if bytes_eq label l then Some 0 else option_map (λ n. n + 1) (find_label label ls)

abbrev pub label_found : Option ℕ → List ℕ → List (List ℕ) → ℕ × List (List ℕ)
label_found None label labels = (length labels, labels ++ label ∷ [])
label_found (Some number) label labels = (number, labels)

-- a label's number, and the labels with it
abbrev pub with_label : List ℕ → List (List ℕ) → ℕ × List (List ℕ)
with_label label labels = label_found (find_label label labels) label labels

abbrev pub text_of : Option (List ℕ) → List ℕ
text_of None = []
text_of (Some label) = label

-- the label with this number
abbrev pub label_text : List (List ℕ) → ℕ → List ℕ
label_text labels number = text_of (slice_get labels number)
