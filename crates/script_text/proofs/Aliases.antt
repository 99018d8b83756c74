-- What was read of an alias is read again from its canonical words.
use Rattle.std.proofs.Common.{◌≡◌, ℕ, suc, ◌^◌, ◌<◌, Bool, true, false, cond, List, [], ◌∷◌, ◌++◌}
use Rattle.std.proofs.Common.{length, Some, None, Ok, codes, decimal, refl, ap, subst, lit<}
use Rattle.script_text.proofs.Prelude.{AllByRecursion, Asked, bytes_eq, field_number, IsDeclared}
use Rattle.script_text.proofs.Prelude.{kinds_in, Name, name_text, NameList, Owner, ◌>>=◌}
use Rattle.step_table.specs.declared.memory.field.Field.{Field}
use Rattle.step_table.specs.declared.memory.field.Field.TheVariants.{Zero, One, Two, Three}
use Rattle.step_threads.specs.Programs.{owner_asked}
use Rattle.script_text.specs.Words.{field_of_word, numbered_field}
use Rattle.script_text.specs.Names.{source_at, target_at, declared}
use Rattle.script_text.specs.Shapes.{Aim, aim_of, aim_at, alias_at}
use Rattle.script_text.proofs.TidyWords.{IsTidy, name_is_tidy}
use Rattle.script_text.proofs.ReadNames.{both_give, given, same_given, with_names, name_text-Entry}
use Rattle.script_text.proofs.ReadNames.{IsDeclared-Entry, source_is, Grows, target_is}
use Rattle.script_text.proofs.ReadNumbers.{decimal_reads, decimal_tidy}
use Rattle.script_text.proofs.Reversible.{Writer, Asker, Sizer, IsReversible, moved, still}
use Rattle.script_text.proofs.Reversible.{grown_entry}

-- ---- a field

pub field_below : (field : Field) → field_number field < 2 ^ 64
field_below Zero = lit< tt
field_below One = lit< tt
field_below Two = lit< tt
field_below Three = lit< tt

field_again : (field : Field) → field_of_word (decimal (field_number field)) ≡ Ok field
unfolding field_of_word
field_again Zero = ap numbered_field (decimal_reads 0 (field_below Zero))
field_again One = ap numbered_field (decimal_reads 1 (field_below One))
field_again Two = ap numbered_field (decimal_reads 2 (field_below Two))
field_again Three = ap numbered_field (decimal_reads 3 (field_below Three))

-- ---- where an alias points

abbrev at_null : Aim
at_null = None

abbrev at_field : Name → Field → Aim
at_field name field = Some (name, field)

abbrev aim_words : NameList → Aim → List (List ℕ)
aim_words names None = codes "null" ∷ []
aim_words names (Some aim) = name_text names aim.0 ∷ decimal (field_number aim.1) ∷ []

abbrev aim_asks : Aim → List Asked
aim_asks None = []
aim_asks (Some aim) = owner_asked aim.0 ∷ []

abbrev aim_size : Aim → ℕ
aim_size None = 1
aim_size (Some aim) = 2

-- the name whose place an alias has was read from some word, if there is one
abbrev IsAim : NameList → Aim → Type 0
IsAim names None = Unit {0}
IsAim names (Some aim) = (word : List ℕ) × (source_at names Owner word ≡ Ok aim.0)

of_is : (names : NameList) (name : Name) (word spelled : List ℕ) (aim : Aim)
    → source_at names Owner spelled ≡ Ok name
    → aim_of name word ≡ Ok aim → IsAim names aim
of_is names name word spelled aim s h =
    let b = both_give (field_of_word word) (λ field. given (at_field name field)) aim h in
    subst (IsAim names) (same_given (at_field name b.value) aim b.second) (spelled, s)

null_or : (b : Bool) (names : NameList) (source : Name) (word spelled : List ℕ) (aim : Aim)
    → source_at names Owner spelled ≡ Ok source
    → cond b (given at_null) (aim_of source word) ≡ Ok aim → IsAim names aim
null_or true names source word spelled aim s h = subst (IsAim names) (same_given at_null aim h) tt
null_or false names source word spelled aim s h = of_is names source word spelled aim s h

aim_is : (names : NameList) (source : Name) (words : List (List ℕ)) (spelled : List ℕ) (aim : Aim)
    → source_at names Owner spelled ≡ Ok source → aim_at names source words ≡ Ok aim
    → IsAim names aim
unfolding aim_at
aim_is names source [] spelled aim s h = absurd cc
aim_is names source (word ∷ other ∷ third ∷ words) spelled aim s h = absurd cc
aim_is names source (word ∷ []) spelled aim s h =
    null_or (bytes_eq word (codes "null")) names source word spelled aim s h
aim_is names source (other ∷ word ∷ []) spelled aim s h =
    let b = both_give (source_at names Owner other) (λ of. aim_of of word) aim h in
    of_is names b.value word other aim b.first b.second

-- the same of where an alias points as `IsReversible` of a shape
record IsReversibleAim (names new : NameList) (source : Name) (aim : Aim) : Type 0 where
  tidy : AllByRecursion IsTidy (aim_words new aim)
  size_is : length (aim_words new aim) ≡ aim_size aim
  again : aim_at names source (aim_words new aim) ≡ Ok aim
  settled : (more : NameList) → aim_words (new ++ more) aim ≡ aim_words new aim
  named : AllByRecursion (IsDeclared (kinds_in new)) (aim_asks aim)

null_tidy : IsTidy (codes "null")
null_tidy = (lit< tt, refl)

aim_reversible : (names new : NameList) (source : Name) (aim : Aim) → Grows names new
    → IsAim names aim
    → IsReversibleAim names new source aim
unfolding aim_at
aim_reversible names new source None g a =
    record {
      tidy = (null_tidy, tt);
      size_is = refl;
      again = refl;
      settled = λ more. refl;
      named = tt;
    }
aim_reversible names new source (Some aim) g a =
    let word : List ℕ = a.0 in
    let s = source_is names Owner word aim.0 a.1 in
    let later = grown_entry names new aim.0 word Owner g s.entry in
    let text : name_text new aim.0 ≡ word = name_text-Entry new aim.0 word Owner later in
    record {
      tidy = rw text (
        name_is_tidy word s.name_ok,
        (decimal_tidy (field_number aim.1) (field_below aim.1), tt),
      );
      size_is = refl;
      again = rw (text, a.1, field_again aim.1) refl;
      settled = λ more. rw (still new more aim.0 word Owner later) refl;
      named = (IsDeclared-Entry new aim.0 word Owner later, tt);
    }

-- ---- an alias

-- a target, a source, and where the target points
abbrev pub Parts : Type 0
Parts = (Name × Name) × Aim

abbrev pub write_alias : Writer Parts
write_alias names p = name_text names p.0.0 ∷ name_text names p.0.1 ∷ aim_words names p.1

abbrev pub asks_alias : Asker Parts
asks_alias p = owner_asked p.0.0 ∷ owner_asked p.0.1 ∷ aim_asks p.1

abbrev pub alias_size : Sizer Parts
alias_size p = suc (suc (aim_size p.1))

abbrev parts : Name → Name → Aim → Parts
parts target source aim = ((target, source), aim)

alias_from : (names new : NameList) (word other written : List ℕ) (aims : List (List ℕ))
    (target source : Name) (aim : Aim)
    → target_at names Owner word ≡ Ok written → source_at names Owner other ≡ Ok source
    → aim_at names source aims ≡ Ok aim
    → declared names Owner written ≡ Ok (with_names target new)
    → IsReversible alias_at write_alias asks_alias alias_size names new (parts target source aim)
unfolding alias_at
alias_from names new word other written aims target source aim first second third fourth =
    let t = target_is names new Owner word written target first fourth in
    let s = source_is names Owner other source second in
    let a = aim_reversible names new source aim t.grows
    (aim_is names source aims other aim second third) in
    let later = grown_entry names new source other Owner t.grows s.entry in
    let text : name_text new target ≡ word = name_text-Entry new target word Owner t.entry in
    let also : name_text new source ≡ other = name_text-Entry new source other Owner later in
    record {
      tidy = rw (text, also) (name_is_tidy word t.name_ok, (name_is_tidy other s.name_ok, a.tidy));
      size_is = rw a.size_is refl;
      again = rw (text, also, first, second, a.again, fourth) refl;
      grows = t.grows;
      settled = λ more.
          rw (
            still new more target word Owner t.entry,
            still new more source other Owner later,
            a.settled more,
          ) refl;
      named = (
        IsDeclared-Entry new target word Owner t.entry,
        (IsDeclared-Entry new source other Owner later, a.named),
      );
    }

pub alias_reversible : (names new : NameList) (words : List (List ℕ)) (p : Parts)
    → alias_at names words ≡ Ok (with_names p new)
    → IsReversible alias_at write_alias asks_alias alias_size names new p
unfolding alias_at
alias_reversible names new [] p h = absurd cc
alias_reversible names new (word ∷ []) p h = absurd cc
alias_reversible names new (word ∷ other ∷ aims) p h =
    let a =
    both_give (target_at names Owner word)
    (λ written. source_at names Owner other >>= λ source. aim_at names source aims
    >>= λ aim. declared names Owner written
    >>= λ d. given (with_names (parts d.0 source aim) d.1))
    (with_names p new) h in
    let b =
    both_give (source_at names Owner other)
    (λ source. aim_at names source aims >>= λ aim. declared names Owner a.value
    >>= λ d. given (with_names (parts d.0 source aim) d.1))
    (with_names p new) a.second in
    let c =
    both_give (aim_at names b.value aims)
    (λ aim. declared names Owner a.value >>= λ d. given (with_names (parts d.0 b.value aim) d.1))
    (with_names p new) b.second in
    let e =
    both_give (declared names Owner a.value)
    (λ d. given (with_names (parts d.0 b.value c.value) d.1))
    (with_names p new) c.second in
    moved alias_at write_alias asks_alias alias_size names e.value.1 new
    (parts e.value.0 b.value c.value) p e.second
    (alias_from names e.value.1 word other a.value aims e.value.0 b.value c.value a.first b.first
    c.first e.first)
