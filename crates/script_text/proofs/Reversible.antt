-- What was read of the words after the first is read again from its canonical words:
-- a lemma for each shape of statement.
use Rattle.std.proofs.Common.{◌≡◌, ℕ, List, [], ◌∷◌, ◌++◌, map, length, Some, Ok, decimal, Option}
use Rattle.std.proofs.Common.{Result, sym, refl, ap, ◌∙◌, subst}
use Rattle.script_text.proofs.Prelude.{AllByRecursion, Asked, asked_source_at, Cause, IsDeclared}
use Rattle.script_text.proofs.Prelude.{Kind, kinds_in, Name, name_text, NameList, Owner, ◌>>=◌}
use Rattle.script_text.specs.Names.{source_at, target_at, declared}
use Rattle.script_text.specs.Shapes.{one_target, one_source, target_and_source, two_sources}
use Rattle.script_text.specs.Shapes.{fields_at, target_and_fields}
use Rattle.script_text.proofs.TidyWords.{IsTidy, name_is_tidy}
use Rattle.script_text.proofs.ReadNames.{both_give, given, same_given, with_names, Entry}
use Rattle.script_text.proofs.ReadNames.{name_text-Entry, Entry-more, IsDeclared-Entry, source_is}
use Rattle.script_text.proofs.ReadNames.{asked_is, Grows, grows_by_none, target_is}
use Rattle.script_text.proofs.ReadNumbers.{are_fields, fields_again, fields_tidy, fields_size}

-- how the words of a shape are read
abbrev pub Reader : Type 0 → Type 0
Reader A = NameList → List (List ℕ) → Result (A × NameList) Cause

-- how its value is written
abbrev pub Writer : Type 0 → Type 0
Writer A = NameList → A → List (List ℕ)

-- which names it asks for, and of which kind
abbrev pub Asker : Type 0 → Type 0
Asker A = A → List Asked

-- how many words it has
abbrev pub Sizer : Type 0 → Type 0
Sizer A = A → ℕ

-- a value that was read, against how it is written
pub record IsReversible {A : Type 0} (read : Reader A) (write : Writer A) (asks : Asker A) (size : Sizer A)
    (names new : NameList) (value : A) : Type 0 where
  pub tidy : AllByRecursion IsTidy (write new value)
  pub size_is : length (write new value) ≡ size value
  pub again : read names (write new value) ≡ Ok (value, new)
  pub grows : Grows names new
  pub settled : (more : NameList) → write (new ++ more) value ≡ write new value
  pub named : AllByRecursion (IsDeclared (kinds_in new)) (asks value)

-- the same of the value and the names that came out of it
pub moved : {A : Type 0} (read : Reader A) (write : Writer A) (asks : Asker A) (size : Sizer A)
    (names made new : NameList) (x y : A)
    → given (with_names x made) ≡ given (with_names y new) → IsReversible read write asks size names made x
    → IsReversible read write asks size names new y
moved {A} read write asks size names made new x y e r =
    subst (λ (q : A × NameList). IsReversible read write asks size names q.1 q.0)
    (same_given (with_names x made) (with_names y new) e) r

-- later names change no name's text
pub still : (names more : NameList) (name : Name) (word : List ℕ) (kind : Kind) → Entry names name word kind
    → name_text (names ++ more) name ≡ name_text names name
still names more name word kind e =
    name_text-Entry (names ++ more) name word kind (Entry-more names more name word kind e)
    ∙ sym (name_text-Entry names name word kind e)

-- so many words, whatever the value
abbrev pub always : {A : Type 0} → ℕ → Sizer A
always n = λ _. n

-- ---- one name

abbrev pub write_one : Writer Name
write_one names name = name_text names name ∷ []

abbrev pub asks_one : Kind → Asker Name
asks_one kind name = (name, Some kind) ∷ []

pub target_reversible : (kind : Kind) (names new : NameList) (words : List (List ℕ)) (name : Name)
    → one_target names kind words ≡ Ok (with_names name new)
    → IsReversible (λ ns ws. one_target ns kind ws) write_one (asks_one kind) (always 1) names new name
unfolding one_target
target_reversible kind names new [] name h = absurd cc
target_reversible kind names new (word ∷ other ∷ words) name h = absurd cc
target_reversible kind names new (word ∷ []) name h =
    let b =
    both_give (target_at names kind word) (λ written. declared names kind written) (with_names name new)
    h in
    let t = target_is names new kind word b.value name b.first b.second in
    let text : name_text new name ≡ word = name_text-Entry new name word kind t.entry in
    record {
      tidy = rw text (name_is_tidy word t.name_ok, tt);
      size_is = refl;
      again = rw text h;
      grows = t.grows;
      settled = λ more. ap (λ (u : List ℕ). u ∷ []) (still new more name word kind t.entry);
      named = (IsDeclared-Entry new name word kind t.entry, tt);
    }

source_from : (kind : Kind) (names : NameList) (word : List ℕ) (name : Name)
    → source_at names kind word ≡ Ok name
    → IsReversible (λ ns ws. one_source ns kind ws) write_one (asks_one kind) (always 1) names names name
unfolding one_source
source_from kind names word name h =
    let s = source_is names kind word name h in
    let text : name_text names name ≡ word = name_text-Entry names name word kind s.entry in
    record {
      tidy = rw text (name_is_tidy word s.name_ok, tt);
      size_is = refl;
      again = rw (text, h) refl;
      grows = grows_by_none names;
      settled = λ more. ap (λ (u : List ℕ). u ∷ []) (still names more name word kind s.entry);
      named = (IsDeclared-Entry names name word kind s.entry, tt);
    }

pub source_reversible : (kind : Kind) (names new : NameList) (words : List (List ℕ)) (name : Name)
    → one_source names kind words ≡ Ok (with_names name new)
    → IsReversible (λ ns ws. one_source ns kind ws) write_one (asks_one kind) (always 1) names new name
unfolding one_source
source_reversible kind names new [] name h = absurd cc
source_reversible kind names new (word ∷ other ∷ words) name h = absurd cc
source_reversible kind names new (word ∷ []) name h =
    let b =
    both_give (source_at names kind word) (λ source. given (with_names source names)) (with_names name new)
    h in
    moved (λ ns ws. one_source ns kind ws) write_one (asks_one kind) (always 1) names names new b.value name
    b.second
    (source_from kind names word b.value b.first)

-- ---- two names

abbrev pub write_two : Writer (Name × Name)
write_two names p = name_text names p.0 ∷ name_text names p.1 ∷ []

abbrev pub asks_two : Kind → Kind → Asker (Name × Name)
asks_two first second p = (p.0, Some first) ∷ (p.1, Some second) ∷ []

abbrev pub pair : Name → Name → Name × Name
pair first second = (first, second)

-- an entry of the names that have grown
pub grown_entry : (names new : NameList) (name : Name) (word : List ℕ) (kind : Kind) → Grows names new
    → Entry names name word kind → Entry new name word kind
grown_entry names new name word kind g e = rw g.grown (Entry-more names g.more name word kind e)

target_and_source_from : (to from : Kind) (names new : NameList) (word other written : List ℕ)
    (target source : Name)
    → target_at names to word ≡ Ok written → source_at names from other ≡ Ok source → declared names to
    written ≡ Ok (with_names target new)
    → IsReversible (λ ns ws. target_and_source ns to from ws) write_two (asks_two to from) (always 2) names new
    (pair target source)
unfolding target_and_source
target_and_source_from to from names new word other written target source first second third =
    let t = target_is names new to word written target first third in
    let s = source_is names from other source second in
    let later = grown_entry names new source other from t.grows s.entry in
    let text : name_text new target ≡ word = name_text-Entry new target word to t.entry in
    let also : name_text new source ≡ other = name_text-Entry new source other from later in
    record {
      tidy = rw (text, also) (name_is_tidy word t.name_ok, (name_is_tidy other s.name_ok, tt));
      size_is = refl;
      again = rw (text, also, first, second, third) refl;
      grows = t.grows;
      settled =
          λ more. rw (still new more target word to t.entry, still new more source other from later) refl;
      named =
          (IsDeclared-Entry new target word to t.entry, (IsDeclared-Entry new source other from later, tt));
    }

pub target_and_source_reversible : (to from : Kind) (names new : NameList) (words : List (List ℕ))
    (p : Name × Name)
    → target_and_source names to from words ≡ Ok (with_names p new)
    → IsReversible (λ ns ws. target_and_source ns to from ws) write_two (asks_two to from) (always 2) names new
    p
unfolding target_and_source
target_and_source_reversible to from names new [] p h = absurd cc
target_and_source_reversible to from names new (word ∷ []) p h = absurd cc
target_and_source_reversible to from names new (word ∷ other ∷ third ∷ words) p h = absurd cc
target_and_source_reversible to from names new (word ∷ other ∷ []) p h =
    let a =
    both_give (target_at names to word)
    (λ written. source_at names from other >>= λ source. declared names to written
    >>= λ d. given (with_names (pair d.0 source) d.1))
    (with_names p new) h in
    let b =
    both_give (source_at names from other)
    (λ source. declared names to a.value >>= λ d. given (with_names (pair d.0 source) d.1))
    (with_names p new) a.second in
    let c =
    both_give (declared names to a.value) (λ d. given (with_names (pair d.0 b.value) d.1))
    (with_names p new) b.second in
    moved (λ ns ws. target_and_source ns to from ws) write_two (asks_two to from) (always 2) names c.value.1 new
    (pair c.value.0 b.value) p c.second
    (target_and_source_from to from names c.value.1 word other a.value c.value.0 b.value a.first b.first
    c.first)

-- two sources, each of the kind that was asked for, if one was
abbrev pub asks_both : Option Kind → Asker (Name × Name)
asks_both asked p = (p.0, asked) ∷ (p.1, asked) ∷ []

two_sources_from : (asked : Option Kind) (names : NameList) (word other : List ℕ) (first second : Name)
    → asked_source_at names asked word ≡ Ok first → asked_source_at names asked other ≡ Ok second
    → IsReversible (λ ns ws. two_sources ns asked ws) write_two (asks_both asked) (always 2) names names
    (pair first second)
unfolding two_sources
two_sources_from asked names word other first second one two =
    let s = asked_is names asked word first one in
    let t = asked_is names asked other second two in
    let text : name_text names first ≡ word = name_text-Entry names first word s.kind s.entry in
    let also : name_text names second ≡ other = name_text-Entry names second other t.kind t.entry in
    record {
      tidy = rw (text, also) (name_is_tidy word s.name_ok, (name_is_tidy other t.name_ok, tt));
      size_is = refl;
      again = rw (text, also, one, two) refl;
      grows = grows_by_none names;
      settled =
          λ more. rw (still names more first word s.kind s.entry, still names more second other t.kind t.entry)
          refl;
      named = (s.named, (t.named, tt));
    }

pub two_sources_reversible : (asked : Option Kind) (names new : NameList) (words : List (List ℕ))
    (p : Name × Name)
    → two_sources names asked words ≡ Ok (with_names p new)
    → IsReversible (λ ns ws. two_sources ns asked ws) write_two (asks_both asked) (always 2) names new p
unfolding two_sources
two_sources_reversible asked names new [] p h = absurd cc
two_sources_reversible asked names new (word ∷ []) p h = absurd cc
two_sources_reversible asked names new (word ∷ other ∷ third ∷ words) p h = absurd cc
two_sources_reversible asked names new (word ∷ other ∷ []) p h =
    let a =
    both_give (asked_source_at names asked word)
    (λ first. asked_source_at names asked other >>= λ second. given (with_names (pair first second) names))
    (with_names p new) h in
    let b =
    both_give (asked_source_at names asked other) (λ second. given (with_names (pair a.value second) names))
    (with_names p new) a.second in
    moved (λ ns ws. two_sources ns asked ws) write_two (asks_both asked) (always 2) names names new
    (pair a.value b.value) p b.second
    (two_sources_from asked names word other a.value b.value a.first b.first)

-- ---- a name and four fields

abbrev pub write_fields : Writer (Name × List ℕ)
write_fields names p = name_text names p.0 ∷ map decimal p.1

abbrev pub asks_first : Kind → Asker (Name × List ℕ)
asks_first kind p = (p.0, Some kind) ∷ []

abbrev with_fields : Name → List ℕ → Name × List ℕ
with_fields name fields = (name, fields)

target_and_fields_from : (names new : NameList) (word written : List ℕ) (words : List (List ℕ))
    (target : Name) (fields : List ℕ)
    → target_at names Owner word ≡ Ok written → fields_at words ≡ Ok fields → declared names Owner written
    ≡ Ok (with_names target new)
    → IsReversible target_and_fields write_fields (asks_first Owner) (always 5) names new
    (with_fields target fields)
unfolding target_and_fields
target_and_fields_from names new word written words target fields first second third =
    let t = target_is names new Owner word written target first third in
    let f = are_fields words fields second in
    let text : name_text new target ≡ word = name_text-Entry new target word Owner t.entry in
    record {
      tidy = rw text (name_is_tidy word t.name_ok, fields_tidy fields f);
      size_is = rw (fields_size fields f) refl;
      again = rw (text, first, fields_again fields f, third) refl;
      grows = t.grows;
      settled =
          λ more. ap (λ (u : List ℕ). u ∷ map decimal fields) (still new more target word Owner t.entry);
      named = (IsDeclared-Entry new target word Owner t.entry, tt);
    }

pub target_and_fields_reversible : (names new : NameList) (words : List (List ℕ)) (p : Name × List ℕ)
    → target_and_fields names words ≡ Ok (with_names p new)
    → IsReversible target_and_fields write_fields (asks_first Owner) (always 5) names new p
unfolding target_and_fields
target_and_fields_reversible names new [] p h = absurd cc
target_and_fields_reversible names new (word ∷ words) p h =
    let a =
    both_give (target_at names Owner word)
    (λ written. fields_at words >>= λ fields. declared names Owner written
    >>= λ d. given (with_names (with_fields d.0 fields) d.1))
    (with_names p new) h in
    let b =
    both_give (fields_at words)
    (λ fields. declared names Owner a.value >>= λ d. given (with_names (with_fields d.0 fields) d.1))
    (with_names p new) a.second in
    let c =
    both_give (declared names Owner a.value) (λ d. given (with_names (with_fields d.0 b.value) d.1))
    (with_names p new) b.second in
    moved target_and_fields write_fields (asks_first Owner) (always 5) names c.value.1 new
    (with_fields c.value.0 b.value) p c.second
    (target_and_fields_from names c.value.1 word a.value words c.value.0 b.value a.first b.first c.first)
