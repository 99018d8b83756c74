-- What was read of a compare is read again from its canonical words.
use Rattle.std.proofs.Common.{◌≡◌, ℕ, Bool, List, [], ◌∷◌, Ok, sym, refl, subst}
use Rattle.script_text.proofs.Prelude.{as_in, cell_text, CellName, kind_at, Name, name_text}
use Rattle.script_text.proofs.Prelude.{NameList, through, ◌>>=◌}
use Rattle.step_threads.specs.declared.programs.call.Call.TheVariants as call
use Rattle.script_text.specs.Names.{source_at}
use Rattle.script_text.specs.Cells.{cell_of_word}
use Rattle.script_text.specs.Shapes.{cell_and_sources}
use Rattle.script_text.proofs.Cells.{as_kind, cell_again, cell_entry, cell_is, cell_still}
use Rattle.script_text.proofs.Cells.{cell_tidy, through_named}
use Rattle.script_text.proofs.CellShapes.{Fits}
use Rattle.script_text.proofs.TidyWords.{name_is_tidy}
use Rattle.script_text.proofs.ReadNames.{both_give, given, grows_by_none, name_text-Entry}
use Rattle.script_text.proofs.ReadNames.{same_given, source_is, with_names}
use Rattle.script_text.proofs.Reversible.{Asker, IsReversible, Writer, always, still}

abbrev pub write_compare : Writer (CellName × Name × Name)
write_compare names p = cell_text names p.0 ∷ name_text names p.1 ∷ name_text names p.2 ∷ []

abbrev pub asks_compare : Asker (CellName × Name × Name)
asks_compare p = as_in p.0 p.1 ∷ as_in p.0 p.2 ∷ through p.0

abbrev cell_and_two : CellName → Name → Name → CellName × Name × Name
cell_and_two cell expected desired = (cell, expected, desired)

-- the words of a compare that was read, which declares nothing
record IsCompare (names new : NameList) (word other last : List ℕ)
    (p : CellName × Name × Name) : Type 0 where
  cell : cell_of_word names word ≡ Ok p.0
  expected : source_at names (kind_at p.0) other ≡ Ok p.1
  desired : source_at names (kind_at p.0) last ≡ Ok p.2
  none : names ≡ new

compare_is : (names new : NameList) (word other last : List ℕ) (p : CellName × Name × Name)
    → cell_and_sources names (word ∷ other ∷ last ∷ []) ≡ Ok (with_names p new)
    → IsCompare names new word other last p
unfolding cell_and_sources
compare_is names new word other last p h =
    let a =
    both_give (cell_of_word names word)
    (λ c. source_at names (kind_at c) other >>= λ expected. source_at names (kind_at c) last
    >>= λ desired. given (with_names (cell_and_two c expected desired) names))
    (with_names p new) h in
    let b =
    both_give (source_at names (kind_at a.value) other)
    (λ expected. source_at names (kind_at a.value) last
    >>= λ desired. given (with_names (cell_and_two a.value expected desired) names))
    (with_names p new) a.second in
    let c =
    both_give (source_at names (kind_at a.value) last)
    (λ desired. given (with_names (cell_and_two a.value b.value desired) names))
    (with_names p new) b.second in
    let same = same_given (with_names (cell_and_two a.value b.value c.value) names)
    (with_names p new) c.second in
    subst (λ (q : (CellName × Name × Name) × NameList). IsCompare names q.1 word other last q.0)
    same
    (record { cell = a.first; expected = b.first; desired = c.first; none = refl })

compare_from : (names : NameList) (word other last : List ℕ) (p : CellName × Name × Name)
    → IsCompare names names word other last p
    → IsReversible cell_and_sources write_compare asks_compare (always 3) names names p
unfolding cell_and_sources
compare_from names word other last p l =
    let is = cell_is names word p.0 l.cell in
    let here = cell_entry names names p.0 (grows_by_none names) is in
    let s = source_is names (kind_at p.0) other p.1 l.expected in
    let t = source_is names (kind_at p.0) last p.2 l.desired in
    let text : name_text names p.1 ≡ other =
    name_text-Entry names p.1 other (kind_at p.0) s.entry in
    let also : name_text names p.2 ≡ last = name_text-Entry names p.2 last (kind_at p.0) t.entry in
    record {
      tidy = rw (text, also) (
        cell_tidy names p.0 is,
        (name_is_tidy other s.name_ok, (name_is_tidy last t.name_ok, tt)),
      );
      size_is = refl;
      again = rw (cell_again names p.0 is, text, also, l.expected, l.desired) refl;
      grows = grows_by_none names;
      settled = λ more.
          rw (
            cell_still names more p.0 here,
            still names more p.1 other (kind_at p.0) s.entry,
            still names more p.2 last (kind_at p.0) t.entry,
          ) refl;
      named = (
        as_kind names p.0 p.1 other s.entry,
        (as_kind names p.0 p.2 last t.entry, through_named names p.0 here),
      );
    }

pub compare_reversible : (names new : NameList) (words : List (List ℕ)) (p : CellName × Name × Name)
    → cell_and_sources names words ≡ Ok (with_names p new)
    → IsReversible cell_and_sources write_compare asks_compare (always 3) names new p
unfolding cell_and_sources
compare_reversible names new [] p h = absurd cc
compare_reversible names new (word ∷ []) p h = absurd cc
compare_reversible names new (word ∷ other ∷ []) p h = absurd cc
compare_reversible names new (word ∷ other ∷ last ∷ fourth ∷ words) p h = absurd cc
compare_reversible names new (word ∷ other ∷ last ∷ []) p h =
    let l = compare_is names new word other last p h in
    subst (λ (ns : NameList). IsReversible cell_and_sources write_compare asks_compare (always 3)
    names ns p) l.none
    (compare_from names word other last p
    (subst (λ (ns : NameList). IsCompare names ns word other last p) (sym l.none) l))

pub compare_fits : (way : Bool) (names new : NameList) (words : List (List ℕ))
    (p : CellName × Name × Name)
    → cell_and_sources names words ≡ Ok (with_names p new) → Fits (call.Compare p.0 p.1 p.2 way)
unfolding cell_and_sources
compare_fits way names new [] p h = absurd cc
compare_fits way names new (word ∷ []) p h = absurd cc
compare_fits way names new (word ∷ other ∷ []) p h = absurd cc
compare_fits way names new (word ∷ other ∷ last ∷ fourth ∷ words) p h = absurd cc
compare_fits way names new (word ∷ other ∷ last ∷ []) p h =
    (((cell_is names word p.0 (compare_is names new word other last p h).cell).text, tt), tt)
