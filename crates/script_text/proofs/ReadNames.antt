-- What was read of names: the word is the name with that number, and stays so as names are added.
use Rattle.std.proofs.Common.{◌≡◌, ℕ, zero, suc, ◌+◌, ◌≤◌, Bool, true, false, cond, ltb, List, []}
use Rattle.std.proofs.Common.{◌∷◌, ◌++◌, map, length, slice_get, Some, None, Ok, Err, Option}
use Rattle.std.proofs.Common.{Result, sym, refl, ap, ◌∙◌, subst, append-nil, arith, length-append}
use Rattle.std.proofs.Common.{ltb-true}
use Rattle.script_text.proofs.Prelude.{asked_source_at, bytes_eq, bytes_eq-Decides, Cause}
use Rattle.script_text.proofs.Prelude.{find_name, is_name, IsDeclared, IsNameFound, Kind, kinds_in}
use Rattle.script_text.proofs.Prelude.{Name, name_text, NameList, numbered, option_map, Owner}
use Rattle.script_text.proofs.Prelude.{Weak, ◌>>=◌}
use Rattle.script_text.specs.declared.fault.Cause.TheVariants.{BadName, TooManyNames}
use Rattle.script_text.specs.declared.fault.Cause.TheVariants.{WrongKindOfName}
use Rattle.script_text.specs.Words.{name_at}
use Rattle.script_text.specs.Names.{found_source, found_target, found_any, source_at}
use Rattle.script_text.specs.Names.{any_source_at, target_at, declared_at, declared, text_of_entry}
use Rattle.control_word.specs.Handles.{same_kind}

-- ---- readings in a row

-- two readings in a row that give a value
pub record BothGive {A B : Type 0} (r : Result A Cause) (f : A → Result B Cause)
    (y : B) : Type 0 where
  pub value : A
  pub first : r ≡ Ok value
  pub second : f value ≡ Ok y

pub both_give : {A B : Type 0} (r : Result A Cause) (f : A → Result B Cause) (y : B)
    → (r >>= f) ≡ Ok y
    → BothGive r f y
both_give (Ok x) f y e = record { value = x; first = refl; second = e }
both_give (Err d) f y e = absurd cc

-- a reading that gives this value
abbrev pub given : {A : Type 0} → A → Result A Cause
given x = Ok x

pub same_given : {A : Type 0} (x y : A) → given x ≡ given y → x ≡ y
same_given x y e = cc

-- a value that is given where a test holds
pub if_given : {A : Type 0} (b : Bool) (d : Cause) (x y : A) → cond b (given x) (Err d) ≡ given y
    → (b ≡ true) × (x ≡ y)
if_given true d x y e = (refl, cc)
if_given false d x y e = absurd cc

-- ---- entries

-- the entry with this number has this name and kind
pub record Entry (names : NameList) (name : Name) (word : List ℕ) (kind : Kind) : Type 0 where
  pub at : slice_get names name.0 ≡ Some (word, kind)

pub name_text-Entry : (names : NameList) (name : Name) (word : List ℕ) (kind : Kind)
    → Entry names name word kind → name_text names name ≡ word
name_text-Entry names name word kind e = ap text_of_entry e.at

pub slice_get-more : {A : Type 0} (xs ys : List A) (n : ℕ) (x : A) → slice_get xs n ≡ Some x
    → slice_get (xs ++ ys) n ≡ Some x
slice_get-more [] ys n x h = absurd cc
slice_get-more (y ∷ xs) ys zero x h = h
slice_get-more (y ∷ xs) ys (suc n) x h = slice_get-more xs ys n x h

pub Entry-more : (names more : NameList) (name : Name) (word : List ℕ) (kind : Kind)
    → Entry names name word kind → Entry (names ++ more) name word kind
Entry-more names more name word kind e =
    record { at = slice_get-more names more name.0 (word, kind) e.at }

slice_get-last : {A : Type 0} (xs : List A) (x : A) → slice_get (xs ++ x ∷ []) (length xs) ≡ Some x
slice_get-last [] x = refl
slice_get-last (y ∷ xs) x = slice_get-last xs x

slice_get-map : {A B : Type 0} (f : A → B) (xs : List A) (n : ℕ) (x : A) → slice_get xs n ≡ Some x
    → slice_get (map f xs) n ≡ Some (f x)
slice_get-map f [] n x h = absurd cc
slice_get-map f (y ∷ xs) zero x h = let same : y ≡ x = cc in ap (λ z. Some (f z)) same
slice_get-map f (y ∷ xs) (suc n) x h = slice_get-map f xs n x h

pub IsDeclared-Entry : (names : NameList) (name : Name) (word : List ℕ) (kind : Kind)
    → Entry names name word kind → IsDeclared (kinds_in names) (name, Some kind)
IsDeclared-Entry names name word kind e =
    slice_get-map (λ (entry : List ℕ × Kind). entry.1) names name.0 (word, kind) e.at

pub IsDeclared-any : (names : NameList) (name : Name) (word : List ℕ) (kind : Kind)
    → Entry names name word kind → IsDeclared (kinds_in names) (name, None)
IsDeclared-any names name word kind e =
    subst (λ (k : Option Kind). IsNameFound None k) (sym (IsDeclared-Entry names name word kind e))
    refl

-- ---- what is found

-- what was found of a word is in the names
abbrev Found : NameList → List ℕ → Option (ℕ × Kind) → Type 0
Found names word None = Unit {0}
Found names word (Some p) = slice_get names p.0 ≡ Some (word, p.1)

found_there : (n : List ℕ × Kind) (names : NameList) (word : List ℕ) (r : Option (ℕ × Kind))
    → Found names word r → Found (n ∷ names) word (option_map (λ p. (p.0 + 1, p.1)) r)
found_there n names word None h = tt
found_there n names word (Some p) h = let one : p.0 + 1 ≡ suc p.0 = omega arith in rw one h

found_by : (b : Bool) (n : List ℕ × Kind) (names : NameList) (word : List ℕ) (r : Option (ℕ × Kind))
    → bytes_eq word n.0 ≡ b → Found names word r
    → Found (n ∷ names) word (cond b (Some (0, n.1)) (option_map (λ p. (p.0 + 1, p.1)) r))
found_by true n names word r h k =
    ap (λ (u : List ℕ). Some (u, n.1)) (sym ((bytes_eq-Decides word n.0).0 h))
found_by false n names word r h k = found_there n names word r k

find_found : (names : NameList) (word : List ℕ) → Found names word (find_name word names)
find_found [] word = tt
find_found (n ∷ names) word =
    found_by (bytes_eq word n.0) n names word (find_name word names) refl (find_found names word)

kind_by : (a b : Kind) → same_kind a b ≡ true → a ≡ b
kind_by Owner Owner h = refl
kind_by Owner Weak h = absurd cc
kind_by Weak Owner h = absurd cc
kind_by Weak Weak h = refl

name_is : (word name : List ℕ) → name_at word ≡ Ok name → (is_name word ≡ true) × (word ≡ name)
name_is word name h = if_given (is_name word) BadName word name h

-- ---- sources

-- a source that was read: the name with this number and kind is the word
pub record IsSource (names : NameList) (name : Name) (word : List ℕ) (kind : Kind) : Type 0 where
  pub entry : Entry names name word kind
  pub name_ok : is_name word ≡ true

source_found : (kind : Kind) (names : NameList) (word : List ℕ) (r : Option (ℕ × Kind))
    (name : Name)
    → Found names word r → found_source kind r ≡ Ok name → Entry names name word kind
source_found kind names word None name f h = absurd cc
source_found kind names word (Some p) name f h =
    let g = if_given (same_kind p.1 kind) WrongKindOfName (numbered p.0) name h in
    record { at = rw (← g.1, ← kind_by p.1 kind g.0) f }

pub source_is : (names : NameList) (kind : Kind) (word : List ℕ) (name : Name)
    → source_at names kind word ≡ Ok name → IsSource names name word kind
unfolding source_at
source_is names kind word name h =
    let b = both_give (name_at word) (λ n. found_source kind (find_name n names)) name h in
    let n = name_is word b.value b.first in
    let found : found_source kind (find_name word names) ≡ Ok name =
    subst (λ (u : List ℕ). found_source kind (find_name u names) ≡ Ok name) (sym n.1) b.second in
    record {
      entry =
          source_found kind names word (find_name word names) name (find_found names word) found;
      name_ok = n.0;
    }

-- a source of the kind that was asked for, or of either where none was
pub record IsAsked (names : NameList) (name : Name) (word : List ℕ)
    (asked : Option Kind) : Type 0 where
  pub kind : Kind
  pub entry : Entry names name word kind
  pub name_ok : is_name word ≡ true
  pub named : IsDeclared (kinds_in names) (name, asked)

any_found : (names : NameList) (word : List ℕ) (r : Option (ℕ × Kind)) (name : Name)
    → Found names word r → found_any r ≡ Ok name → (k : Kind) × Entry names name word k
any_found names word None name f h = absurd cc
any_found names word (Some p) name f h =
    let g = same_given (numbered p.0) name h in
    (p.1, record { at = rw (← g) f })

any_is : (names : NameList) (word : List ℕ) (name : Name)
    → any_source_at names word ≡ Ok name → IsAsked names name word None
unfolding any_source_at
any_is names word name h =
    let b = both_give (name_at word) (λ n. found_any (find_name n names)) name h in
    let n = name_is word b.value b.first in
    let found : found_any (find_name word names) ≡ Ok name =
    subst (λ (u : List ℕ). found_any (find_name u names) ≡ Ok name) (sym n.1) b.second in
    let e = any_found names word (find_name word names) name (find_found names word) found in
    record {
      kind = e.0;
      entry = e.1;
      name_ok = n.0;
      named = IsDeclared-any names name word e.0 e.1;
    }

pub asked_is : (names : NameList) (asked : Option Kind) (word : List ℕ) (name : Name)
    → asked_source_at names asked word ≡ Ok name → IsAsked names name word asked
asked_is names None word name h = any_is names word name h
asked_is names (Some kind) word name h =
    let s = source_is names kind word name h in
    record {
      kind = kind;
      entry = s.entry;
      name_ok = s.name_ok;
      named = IsDeclared-Entry names name word kind s.entry;
    }

-- ---- targets

-- names go on, and stay at most 32
pub record Grows (names new : NameList) : Type 0 where
  pub more : NameList
  pub grown : new ≡ names ++ more
  pub few : length names ≤ 32 → length new ≤ 32

pub grows_by_none : (names : NameList) → Grows names names
grows_by_none names = record { more = []; grown = sym (append-nil names); few = λ h. h }

-- a target that was read and declared
pub record IsTarget (names new : NameList) (name : Name) (word : List ℕ)
    (kind : Kind) : Type 0 where
  pub entry : Entry new name word kind
  pub name_ok : is_name word ≡ true
  pub grows : Grows names new

-- a declaration that was made
record IsMade (names new : NameList) (name : Name) (word : List ℕ) (kind : Kind) : Type 0 where
  entry : Entry new name word kind
  grows : Grows names new

-- a value, and the names after it
abbrev pub with_names : {A : Type 0} → A → NameList → A × NameList
with_names x names = (x, names)

pub pair_is : {A : Type 0} (x y : A) (names new : NameList) → with_names x names ≡ with_names y new
    → (x ≡ y) × (names ≡ new)
pair_is {A} x y names new e = (ap (λ (q : A × NameList). q.0) e, ap (λ (q : A × NameList). q.1) e)

made_by : (names new : NameList) (kind : Kind) (word : List ℕ) (r : Option (ℕ × Kind)) (name : Name)
    → Found names word r → found_target kind word r ≡ Ok word
    → declared_at names kind word r ≡ given (with_names name new) → IsMade names new name word kind
made_by names new kind word (Some p) name f t h =
    let g = if_given (same_kind p.1 kind) WrongKindOfName word word t in
    let e =
    pair_is (numbered p.0) name names new
    (same_given (with_names (numbered p.0) names) (with_names name new) h) in
    let here : Entry names (numbered p.0) word kind =
    record { at = rw (← kind_by p.1 kind g.0) f } in
    rw (← e.0, ← e.1) (record { entry = here; grows = grows_by_none names })
made_by names new kind word None name f t h =
    let g =
    if_given (ltb (length names) 32) TooManyNames
    (with_names (numbered (length names)) (names ++ (word, kind) ∷ [])) (with_names name new) h in
    let e = pair_is (numbered (length names)) name (names ++ (word, kind) ∷ []) new g.1 in
    let last : Entry (names ++ (word, kind) ∷ []) (numbered (length names)) word kind =
    record { at = slice_get-last names (word, kind) } in
    let room : length (names ++ (word, kind) ∷ []) ≤ 32 =
    omega (arith, ltb-true _ _ g.0, length-append names ((word, kind) ∷ [])) in
    rw (← e.0, ← e.1)
    (record {
      entry = last;
      grows = record {
        more = (word, kind) ∷ [];
        grown = refl;
        few = λ _. room;
      };
    })

made : (names new : NameList) (kind : Kind) (word : List ℕ) (name : Name)
    → found_target kind word (find_name word names) ≡ Ok word
    → declared names kind word ≡ Ok (name, new)
    → IsMade names new name word kind
unfolding declared
made names new kind word name t h =
    made_by names new kind word (find_name word names) name (find_found names word) t h

target_same : (kind : Kind) (name word : List ℕ) (r : Option (ℕ × Kind))
    → found_target kind name r ≡ Ok word → name ≡ word
target_same kind name word None h = same_given name word h
target_same kind name word (Some p) h =
    (if_given (same_kind p.1 kind) WrongKindOfName name word h).1

pub target_is : (names new : NameList) (kind : Kind) (word written : List ℕ) (name : Name)
    → target_at names kind word ≡ Ok written → declared names kind written ≡ Ok (name, new)
    → IsTarget names new name word kind
unfolding target_at
target_is names new kind word written name t h =
    let b = both_give (name_at word) (λ n. found_target kind n (find_name n names)) written t in
    let n = name_is word b.value b.first in
    let same : word ≡ written = n.1 ∙ target_same kind b.value written (find_name b.value names)
    b.second in
    let found : found_target kind word (find_name word names) ≡ Ok word =
    rw (n.1) (b.second ∙ ap given (sym same ∙ n.1)) in
    let m =
    made names new kind word name found
    (subst (λ (u : List ℕ). declared names kind u ≡ Ok (name, new)) (sym same) h) in
    record { entry = m.entry; name_ok = n.0; grows = m.grows }
