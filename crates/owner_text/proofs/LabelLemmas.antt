-- Looking a label up in a table, and adding one.
use Rattle.std.proofs.Common.{◌≡◌, ℕ, suc, ◌+◌, Bool, true, false, cond, not, ltb, List, [], ◌∷◌}
use Rattle.std.proofs.Common.{◌++◌, length, Some, None, Option, String, refl, sym, ap, ◌∙◌, arith}
use Rattle.std.proofs.Common.{lt-ltb}
use Rattle.owner_text.proofs.Prelude.{find_label, labels_in, nat_tests, with_label}
use Rattle.std.specs.List.{position, position_or_len}
use Rattle.std.specs.Map.{keys_of}
use Rattle.std.specs.Option.{option_map}
use Rattle.std.specs.Str.{bytes_eq}
use Rattle.std.specs.String.{string_bytes, string_eq}
use Rattle.std.proofs.lemmas.List.{length-map}
use Rattle.indexmap.specs.IndexMap.{insert_entry}

-- what `find_label` gives at another first label than the one looked for
abbrev there : Option ℕ → Option ℕ
there found = option_map (λ n. n + 1) found

next_place : (b : Bool) (m : ℕ) → option_map (λ i. i + 1) (cond b (Some m) None)
    ≡ cond b (Some (suc m)) None
next_place true m = ap (λ (i : ℕ). Some i) (omega arith)
next_place false m = refl

ltb_suc : (m n : ℕ) → ltb (suc m) (suc n) ≡ ltb m n
ltb_suc m n = grind (arith, nat_tests)

place_by : (b : Bool) (r : Option ℕ) (m n : ℕ) → r ≡ cond (ltb m n) (Some m) None
    → cond b (Some 0) (there r) ≡ cond (ltb (cond (not b) (1 + m) 0) (suc n))
    (Some (cond (not b) (1 + m) 0)) None
place_by true r m n h =
    let first : ltb 0 (suc n) ≡ true = lt-ltb 0 (suc n) (omega arith) in
    rw first refl
place_by false r m n h =
    let one : 1 + m ≡ suc m = omega arith in
    ap (option_map (λ i. i + 1)) h ∙ next_place (ltb m n) m
    ∙ ap (λ b. cond b (Some (suc m)) None) (sym (ltb_suc m n))
    ∙ ap (λ i. cond (ltb i (suc n)) (Some i) None) (sym one)

-- a label's number is its place in the table
pub label_place : {A : Type 0} (label : List ℕ) (es : List (String A × Unit {0}))
    → find_label label (labels_in es) ≡ position (λ k. bytes_eq label (string_bytes k)) (keys_of es)
label_place label [] = refl
label_place label (e ∷ es) =
    place_by (bytes_eq label (string_bytes e.0)) (find_label label (labels_in es))
    (position_or_len (λ k. bytes_eq label (string_bytes k)) (keys_of es)) (length (keys_of es))
    (label_place label es)

missed : (b : Bool) (r : Option ℕ) → cond b (Some 0) (there r) ≡ None → (b ≡ false) × (r ≡ None)
missed true r h = absurd cc
missed false None h = (refl, refl)
missed false (Some n) h = absurd cc

-- a new label goes last
pub label_added : {A : Type 0} (es : List (String A × Unit {0})) (key : String A) (label : List ℕ)
    → string_bytes key ≡ label
    → find_label label (labels_in es) ≡ None
    → labels_in (insert_entry string_eq es key tt) ≡ labels_in es ++ label ∷ []
label_added [] key label same none = ap (λ (l : List ℕ). l ∷ []) same
label_added (e ∷ es) key label same none =
    let m = missed (bytes_eq label (string_bytes e.0)) (find_label label (labels_in es)) none in
    let test : string_eq key e.0 ≡ false = rw (← same) at m.0 in
    rw test (ap (λ (ls : List (List ℕ)). string_bytes e.0 ∷ ls) (label_added es key label same m.1))

pub label_numbered : {A : Type 0} (es fs : List (String A × Unit {0})) (key : String A)
    (label : List ℕ) (n : ℕ) → string_bytes key ≡ label
    → find_label label (labels_in es) ≡ None → n ≡ length es → fs ≡ insert_entry string_eq es key tt
    → with_label label (labels_in es) ≡ (n, labels_in fs)
label_numbered es fs key label n same none is new =
    let len : length (labels_in es) ≡ n =
    length-map es (λ (e : String _ × Unit {0}). string_bytes e.0) ∙ sym is in
    rw (none, len, new) (ap (λ (ls : List (List ℕ)). (n, ls))
    (sym (label_added es key label same none)))

-- a label that is there keeps its number
pub label_there : (label : List ℕ) (labels : List (List ℕ)) (n : ℕ)
    → find_label label labels ≡ Some n → with_label label labels ≡ (n, labels)
label_there label labels n is = rw is refl
