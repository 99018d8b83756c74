-- Looking a name up in a table, and adding one.
use Rattle.std.proofs.Common.{◌≡◌, ℕ, suc, ◌+◌, ◌<◌, Bool, true, false, cond, not, ltb, List, []}
use Rattle.std.proofs.Common.{◌∷◌, ◌++◌, map, length, Some, None, Ok, Option, String, sym, refl}
use Rattle.std.proofs.Common.{ap, ◌∙◌, arith, rules, lt-ltb}
use Rattle.script_text.proofs.Prelude.{bytes_eq, find_name, Kind, length-map, NameList, names_in}
use Rattle.script_text.proofs.Prelude.{nat_tests, numbered, option_map, position, position_or_len}
use Rattle.std.specs.List.{AllZip}
use Rattle.std.specs.Map.{lookup, keys_of, values_of}
use Rattle.std.specs.String.{string_bytes, string_eq}
use Rattle.indexmap.specs.IndexMap.{insert_entry}
use Rattle.script_text.specs.Names.{declared}

-- what `find_name` gives at a first name that is the one looked for, and at another
abbrev here : Kind → Option (ℕ × Kind)
here kind = Some (0, kind)

abbrev there : Option (ℕ × Kind) → Option (ℕ × Kind)
there found = option_map (λ p. (p.0 + 1, p.1)) found

-- ---- the number is the place that the table gives

next_place : (b : Bool) (m : ℕ) → option_map (λ i. i + 1) (cond b (Some m) None)
    ≡ cond b (Some (suc m)) None
next_place true m = ap (λ (i : ℕ). Some i) (omega arith)
next_place false m = refl

number-there : (r : Option (ℕ × Kind))
    → option_map (λ p. p.0) (there r) ≡ option_map (λ i. i + 1) (option_map (λ p. p.0) r)
number-there None = refl
number-there (Some p) = refl

ltb_suc : (m n : ℕ) → ltb (suc m) (suc n) ≡ ltb m n
ltb_suc m n = grind (arith, nat_tests)

number_by : (b : Bool) (kind : Kind) (r : Option (ℕ × Kind)) (m n : ℕ)
    → option_map (λ p. p.0) r ≡ cond (ltb m n) (Some m) None
    → option_map (λ p. p.0) (cond b (here kind) (there r))
    ≡ cond (ltb (cond (not b) (1 + m) 0) (suc n))
    (Some (cond (not b) (1 + m) 0)) None
number_by true kind r m n h =
    let first : ltb 0 (suc n) ≡ true = lt-ltb 0 (suc n) (omega arith) in
    rw first refl
number_by false kind r m n h =
    let one : 1 + m ≡ suc m = omega arith in
    number-there r ∙ ap (option_map (λ i. i + 1)) h ∙ next_place (ltb m n) m
    ∙ ap (λ b. cond b (Some (suc m)) None) (sym (ltb_suc m n))
    ∙ ap (λ i. cond (ltb i (suc n)) (Some i) None) (sym one)

pub number-find_name : {A : Type 0} (name : List ℕ) (es : List (String A × Kind))
    → option_map (λ p. p.0) (find_name name (names_in es))
    ≡ position (λ k. bytes_eq name (string_bytes k))
    (keys_of es)
number-find_name name [] = refl
number-find_name name (e ∷ es) =
    number_by (bytes_eq name (string_bytes e.0)) e.1 (find_name name (names_in es))
    (position_or_len (λ k. bytes_eq name (string_bytes k)) (keys_of es)) (length (keys_of es))
    (number-find_name name es)

-- ---- the kind is the value that the table gives

kind-there : (r : Option (ℕ × Kind)) → option_map (λ p. p.1) (there r) ≡ option_map (λ p. p.1) r
kind-there None = refl
kind-there (Some p) = refl

kind_by : (b : Bool) (kind : Kind) (r : Option (ℕ × Kind)) (o : Option Kind)
    → option_map (λ p. p.1) r ≡ o
    → option_map (λ p. p.1) (cond b (here kind) (there r)) ≡ cond b (Some kind) o
kind_by true kind r o h = refl
kind_by false kind r o h = kind-there r ∙ h

pub kind-find_name : {A : Type 0} (name : List ℕ) (es : List (String A × Kind))
    → option_map (λ p. p.1) (find_name name (names_in es))
    ≡ lookup (λ k. bytes_eq name (string_bytes k)) es
kind-find_name name [] = refl
kind-find_name name (e ∷ es) =
    kind_by (bytes_eq name (string_bytes e.0)) e.1 (find_name name (names_in es))
    (lookup (λ k. bytes_eq name (string_bytes k)) es) (kind-find_name name es)

-- ---- both together

pub none_found : (r : Option (ℕ × Kind)) → option_map (λ p. p.0) r ≡ None → r ≡ None
none_found None h = refl
none_found (Some p) h = absurd cc

pub both_found : (r : Option (ℕ × Kind)) (n : ℕ) (k : Kind) → option_map (λ p. p.0) r ≡ Some n
    → option_map (λ p. p.1) r ≡ Some k → r ≡ Some (n, k)
both_found None n k h g = absurd cc
both_found (Some p) n k h g =
    let same_n : p.0 ≡ n = cc in
    let same_k : p.1 ≡ k = cc in
    ap (λ (q : ℕ × Kind). Some q) (rw (same_n, same_k) refl)

-- ---- a new name goes last

missed : (b : Bool) (kind : Kind) (r : Option (ℕ × Kind)) → cond b (here kind) (there r) ≡ None
    → (b ≡ false) × (r ≡ None)
missed true kind r h = absurd cc
missed false kind None h = (refl, refl)
missed false kind (Some p) h = absurd cc

names_in-insert : {A : Type 0} (es : List (String A × Kind)) (key : String A) (kind : Kind)
    (name : List ℕ)
    → string_bytes key ≡ name → find_name name (names_in es) ≡ None
    → names_in (insert_entry string_eq es key kind) ≡ names_in es ++ (name, kind) ∷ []
names_in-insert [] key kind name same none = ap (λ (n : List ℕ). (n, kind) ∷ []) same
names_in-insert (e ∷ es) key kind name same none =
    let m = missed (bytes_eq name (string_bytes e.0)) e.1 (find_name name (names_in es)) none in
    let test : string_eq key e.0 ≡ false = rw (← same) at m.0 in
    rw test (ap (λ (ns : NameList). (string_bytes e.0, e.1) ∷ ns)
    (names_in-insert es key kind name same m.1))

pub declared_new : {A : Type 0} (es fs : List (String A × Kind)) (key : String A) (kind : Kind)
    (name : List ℕ) (n : ℕ)
    → string_bytes key ≡ name → find_name name (names_in es) ≡ None → n ≡ length es → n < 32 → fs
    ≡ insert_entry string_eq es key kind
    → declared (names_in es) kind name ≡ Ok (numbered n, names_in fs)
unfolding declared
declared_new es fs key kind name n same none is room new =
    let len : length (names_in es) ≡ n = search (rules, length-map) in
    let fits : ltb n 32 ≡ true = lt-ltb n 32 room in
    rw (none, len, fits, new)
    (ap (λ (ns : NameList). Ok (numbered n, ns)) (sym (names_in-insert es key kind name same none)))

-- ---- kinds

pub values_of-names_in : {A : Type 0} (es : List (String A × Kind))
    → values_of es ≡ map (λ name. name.1) (names_in es)
values_of-names_in [] = refl
values_of-names_in (e ∷ es) = ap (λ (kinds : List Kind). e.1 ∷ kinds) (values_of-names_in es)

-- ---- a copy

abbrev entry : List ℕ → Kind → List ℕ × Kind
entry word kind = (word, kind)

same_entry : (name word : List ℕ) (kind other : Kind) → word ≡ name → other ≡ kind
    → entry word other ≡ entry name kind
same_entry name word kind other h k = rw (h, k) refl

-- a table whose names and kinds are copies has the same names
pub names_copied : {A : Type 0} (xs ys : List (String A × Kind))
    → AllZip (λ p q. (string_bytes q.0 ≡ string_bytes p.0) × (q.1 ≡ p.1)) xs ys
    → names_in ys ≡ names_in xs
names_copied [] [] h = refl
names_copied [] (y ∷ ys) h = absurd h
names_copied (x ∷ xs) [] h = absurd h
names_copied (x ∷ xs) (y ∷ ys) h =
    ap (λ (ns : NameList). entry (string_bytes y.0) y.1 ∷ ns) (names_copied xs ys h.1)
    ∙ ap (λ (n : List ℕ × Kind). n ∷ names_in xs)
    (same_entry (string_bytes x.0) (string_bytes y.0) x.1 y.1 h.0.0 h.0.1)
