-- What was read of a statement on a cell, by its shape, is read again from its canonical words.
use Rattle.std.proofs.Common.{◌≡◌, ℕ, Bool, true, false, cond, List, [], ◌∷◌, Ok, Err, sym, refl}
use Rattle.std.proofs.Common.{subst}
use Rattle.script_text.proofs.Prelude.{AllByRecursion, as_in, Call, Cause, cell_text, CellName}
use Rattle.script_text.proofs.Prelude.{cells_of, IsApartFromCell, kind_at, Name, name_text}
use Rattle.script_text.proofs.Prelude.{NameList, through, ◌>>=◌}
use Rattle.step_threads.specs.declared.programs.call.Call.TheVariants as call
use Rattle.step_threads.specs.Programs.{is_member_of}
use Rattle.script_text.specs.declared.fault.Cause.TheVariants.{NameUsedTwice}
use Rattle.script_text.specs.Names.{declared, source_at, target_at}
use Rattle.script_text.specs.Cells.{apart, cell_of_word}
use Rattle.script_text.specs.Shapes.{cell_and_other, cell_and_source, target_and_cell}
use Rattle.script_text.proofs.Cells.{IsTextCell, as_kind, cell_again, cell_entry, cell_grown}
use Rattle.script_text.proofs.Cells.{cell_is, cell_still, cell_tidy, through_named}
use Rattle.script_text.proofs.TidyWords.{name_is_tidy}
use Rattle.script_text.proofs.ReadNames.{both_give, given, grows_by_none, name_text-Entry}
use Rattle.script_text.proofs.ReadNames.{same_given, source_is, target_is, with_names}
use Rattle.script_text.proofs.Reversible.{Asker, IsReversible, Writer, always, still}

-- the cells of a call are among those that texts name, and an exchange is of another name's member
abbrev pub Fits : Call → Type 0
Fits c = AllByRecursion IsTextCell (cells_of c) × IsApartFromCell c

-- ---- a cell and a name

abbrev pub write_cell : Writer (CellName × Name)
write_cell names p = cell_text names p.0 ∷ name_text names p.1 ∷ []

abbrev pub asks_cell : Asker (CellName × Name)
asks_cell p = as_in p.0 p.1 ∷ through p.0

abbrev cell_pair : CellName → Name → CellName × Name
cell_pair cell name = (cell, name)

-- the words of a cell and a source that were read, which declare nothing
record IsPair (names new : NameList) (word other : List ℕ) (p : CellName × Name) : Type 0 where
  cell : cell_of_word names word ≡ Ok p.0
  source : source_at names (kind_at p.0) other ≡ Ok p.1
  none : names ≡ new

pair_read : (names new : NameList) (word other : List ℕ) (p : CellName × Name)
    → cell_and_source names (word ∷ other ∷ []) ≡ Ok (with_names p new)
    → IsPair names new word other p
unfolding cell_and_source
pair_read names new word other p h =
    let a =
    both_give (cell_of_word names word)
    (λ c. source_at names (kind_at c) other
    >>= λ source. given (with_names (cell_pair c source) names))
    (with_names p new) h in
    let b =
    both_give (source_at names (kind_at a.value) other)
    (λ source. given (with_names (cell_pair a.value source) names))
    (with_names p new) a.second in
    let same = same_given (with_names (cell_pair a.value b.value) names) (with_names p new)
    b.second in
    subst (λ (q : (CellName × Name) × NameList). IsPair names q.1 word other q.0) same
    (record { cell = a.first; source = b.first; none = refl })

pair_from : (names : NameList) (word other : List ℕ) (p : CellName × Name)
    → IsPair names names word other p
    → IsReversible cell_and_source write_cell asks_cell (always 2) names names p
unfolding cell_and_source
pair_from names word other p l =
    let is = cell_is names word p.0 l.cell in
    let here = cell_entry names names p.0 (grows_by_none names) is in
    let s = source_is names (kind_at p.0) other p.1 l.source in
    let text : name_text names p.1 ≡ other =
    name_text-Entry names p.1 other (kind_at p.0) s.entry in
    record {
      tidy = rw text (cell_tidy names p.0 is, (name_is_tidy other s.name_ok, tt));
      size_is = refl;
      again = rw (cell_again names p.0 is, text, l.source) refl;
      grows = grows_by_none names;
      settled = λ more. rw (
        cell_still names more p.0 here,
        still names more p.1 other (kind_at p.0)
            s.entry,
      ) refl;
      named = (as_kind names p.0 p.1 other s.entry, through_named names p.0 here);
    }

pub cell_reversible : (names new : NameList) (words : List (List ℕ)) (p : CellName × Name)
    → cell_and_source names words ≡ Ok (with_names p new)
    → IsReversible cell_and_source write_cell asks_cell (always 2) names new p
unfolding cell_and_source
cell_reversible names new [] p h = absurd cc
cell_reversible names new (word ∷ []) p h = absurd cc
cell_reversible names new (word ∷ other ∷ third ∷ words) p h = absurd cc
cell_reversible names new (word ∷ other ∷ []) p h =
    let l = pair_read names new word other p h in
    subst (λ (ns : NameList). IsReversible cell_and_source write_cell asks_cell (always 2) names ns
    p) l.none
    (pair_from names word other p (subst (λ (ns : NameList). IsPair names ns word other p)
    (sym l.none) l))

pair_cell : (names new : NameList) (words : List (List ℕ)) (p : CellName × Name)
    → cell_and_source names words ≡ Ok (with_names p new) → IsTextCell p.0
unfolding cell_and_source
pair_cell names new [] p h = absurd cc
pair_cell names new (word ∷ []) p h = absurd cc
pair_cell names new (word ∷ other ∷ third ∷ words) p h = absurd cc
pair_cell names new (word ∷ other ∷ []) p h =
    (cell_is names word p.0 (pair_read names new word other p h).cell).text

pub store_fits : (names new : NameList) (words : List (List ℕ)) (p : CellName × Name)
    → cell_and_source names words ≡ Ok (with_names p new) → Fits (call.Store p.0 p.1)
store_fits names new words p h = ((pair_cell names new words p h, tt), tt)

pub holds_fits : (names new : NameList) (words : List (List ℕ)) (p : CellName × Name)
    → cell_and_source names words ≡ Ok (with_names p new) → Fits (call.Holds p.0 p.1)
holds_fits names new words p h = ((pair_cell names new words p h, tt), tt)

-- ---- a cell and a name that it is no member of

refused_or : {A : Type 0} (b : Bool) (d : Cause) (x y : A) → cond b (Err d) (given x) ≡ given y
    → (b ≡ false) × (x ≡ y)
refused_or true d x y e = absurd cc
refused_or false d x y e = (refl, same_given x y e)

-- it was read as a cell and a name
record IsOther (names new : NameList) (words : List (List ℕ)) (p : CellName × Name) : Type 0 where
  read : cell_and_source names words ≡ Ok (with_names p new)
  other : is_member_of p.0 p.1 ≡ false

other_read : (names new : NameList) (words : List (List ℕ)) (p : CellName × Name)
    → cell_and_other names words ≡ Ok (with_names p new) → IsOther names new words p
unfolding cell_and_other
other_read names new words p h =
    let b = both_give (cell_and_source names words) (λ r. apart r) (with_names p new) h in
    let g = refused_or (is_member_of b.value.0.0 b.value.0.1) NameUsedTwice b.value
    (with_names p new) b.second in
    subst (λ (q : (CellName × Name) × NameList). IsOther names q.1 words q.0) g.1
    (record { read = b.first; other = g.0 })

pub other_reversible : (names new : NameList) (words : List (List ℕ)) (p : CellName × Name)
    → cell_and_other names words ≡ Ok (with_names p new)
    → IsReversible cell_and_other write_cell asks_cell (always 2) names new p
unfolding cell_and_other
other_reversible names new words p h =
    let o = other_read names new words p h in
    let r = cell_reversible names new words p o.read in
    record {
      tidy = r.tidy;
      size_is = r.size_is;
      again = rw (r.again, o.other) refl;
      grows = r.grows;
      settled = r.settled;
      named = r.named;
    }

pub exchange_fits : (names new : NameList) (words : List (List ℕ)) (p : CellName × Name)
    → cell_and_other names words ≡ Ok (with_names p new) → Fits (call.Exchange p.0 p.1)
exchange_fits names new words p h =
    let o = other_read names new words p h in
    ((pair_cell names new words p o.read, tt), o.other)

-- ---- a name and a cell

abbrev pub write_load : Writer (Name × CellName)
write_load names p = name_text names p.0 ∷ cell_text names p.1 ∷ []

abbrev pub asks_load : Asker (Name × CellName)
asks_load p = as_in p.1 p.0 ∷ through p.1

abbrev name_cell : Name → CellName → Name × CellName
name_cell target cell = (target, cell)

-- the words of a load that was read
record IsLoad (names new : NameList) (word other : List ℕ) (p : Name × CellName) : Type 0 where
  written : List ℕ
  cell : cell_of_word names other ≡ Ok p.1
  target : target_at names (kind_at p.1) word ≡ Ok written
  made : declared names (kind_at p.1) written ≡ Ok (with_names p.0 new)

load_is : (names new : NameList) (word other : List ℕ) (p : Name × CellName)
    → target_and_cell names (word ∷ other ∷ []) ≡ Ok (with_names p new)
    → IsLoad names new word other p
unfolding target_and_cell
load_is names new word other p h =
    let a =
    both_give (cell_of_word names other)
    (λ c. target_at names (kind_at c) word >>= λ written. declared names (kind_at c) written
    >>= λ d. given (with_names (name_cell d.0 c) d.1))
    (with_names p new) h in
    let b =
    both_give (target_at names (kind_at a.value) word)
    (λ written. declared names (kind_at a.value) written
    >>= λ d. given (with_names (name_cell d.0 a.value) d.1))
    (with_names p new) a.second in
    let c =
    both_give (declared names (kind_at a.value) b.value)
    (λ d. given (with_names (name_cell d.0 a.value) d.1))
    (with_names p new) b.second in
    let same = same_given (with_names (name_cell c.value.0 a.value) c.value.1) (with_names p new)
    c.second in
    subst (λ (q : (Name × CellName) × NameList). IsLoad names q.1 word other q.0) same
    (record { written = b.value; cell = a.first; target = b.first; made = c.first })

pub load_reversible : (names new : NameList) (words : List (List ℕ)) (p : Name × CellName)
    → target_and_cell names words ≡ Ok (with_names p new)
    → IsReversible target_and_cell write_load asks_load (always 2) names new p
unfolding target_and_cell
load_reversible names new [] p h = absurd cc
load_reversible names new (word ∷ []) p h = absurd cc
load_reversible names new (word ∷ other ∷ third ∷ words) p h = absurd cc
load_reversible names new (word ∷ other ∷ []) p h =
    let l = load_is names new word other p h in
    let is = cell_is names other p.1 l.cell in
    let t = target_is names new (kind_at p.1) word l.written p.0 l.target l.made in
    let here = cell_entry names new p.1 t.grows is in
    let same : cell_text new p.1 ≡ cell_text names p.1 = cell_grown names new p.1 t.grows is in
    let text : name_text new p.0 ≡ word = name_text-Entry new p.0 word (kind_at p.1) t.entry in
    record {
      tidy = rw (text, same) (name_is_tidy word t.name_ok, (cell_tidy names p.1 is, tt));
      size_is = refl;
      again = rw (text, same, cell_again names p.1 is, l.target, l.made) refl;
      grows = t.grows;
      settled = λ more. rw (
        still new more p.0 word (kind_at p.1) t.entry,
        cell_still new more p.1
            here,
      ) refl;
      named = (as_kind new p.1 p.0 word t.entry, through_named new p.1 here);
    }

pub load_fits : (names new : NameList) (words : List (List ℕ)) (p : Name × CellName)
    → target_and_cell names words ≡ Ok (with_names p new) → Fits (call.Load p.0 p.1)
unfolding target_and_cell
load_fits names new [] p h = absurd cc
load_fits names new (word ∷ []) p h = absurd cc
load_fits names new (word ∷ other ∷ third ∷ words) p h = absurd cc
load_fits names new (word ∷ other ∷ []) p h =
    (((cell_is names other p.1 (load_is names new word other p h).cell).text, tt), tt)
