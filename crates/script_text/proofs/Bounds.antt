-- A script that was read is within the limits, its calls are well named, and their cells are among
-- those that texts name.
use Rattle.std.proofs.Common.{◌≡◌, ℕ, zero, suc, ◌+◌, ◌<◌, ◌≤◌, List, [], ◌∷◌, ◌++◌, length}
use Rattle.std.proofs.Common.{slice_get, Some, None, sum_by, Option, refl, ap, ◌∙◌, subst, arith}
use Rattle.std.proofs.Common.{length-append}
use Rattle.script_text.proofs.Prelude
use Prelude.{All-from_recursion, AllByRecursion, Asked, BeginsWithDraft, Call, CellName, cells_of}
use Prelude.{converted, Draft, draft_in, HasTextCells, IsApartFromCell, IsDeclared, IsIn}
use Prelude.{IsNameFound, Kind, kinds_in, Leads, length-map, most_threads, NameList, names_of}
use Prelude.{new_draft, no_section, One, program_in, script_of, ScriptView, Section, sections}
use Prelude.{Shape, Two, Version, with_call}
use Rattle.std.proofs.lemmas.List.{map-append}
use Rattle.std.proofs.lemmas.List.Sums.{sum_by-append, sum_by-cons}
use Rattle.step_threads.specs.Programs.{AllHaveCells, HasCells, Part, IsWellNamed, IsPart}
use Rattle.script_text.specs.Scripts.{part_in, statement_count, IsScript}
use Rattle.script_text.proofs.ReadNames.{slice_get-more, Grows}
use Rattle.script_text.specs.Versions.{blocks_in}
use Rattle.script_text.proofs.Headers.{IsHeader, most_allow}
use Rattle.script_text.proofs.Changes.{with_thread, IsAdded, Change, skipped, headed, began, added}
use Rattle.script_text.proofs.Changes.{line_change}
use Rattle.script_text.proofs.Cells.{IsTextCell, text_cell_in}
use Rattle.script_text.proofs.CellShapes.{Fits}
use Rattle.script_text.proofs.RoundTrip.{round_trip}

-- each name of the call is declared, by recursion
abbrev AreDeclared : List Kind → Call → Type 0
AreDeclared kinds c = AllByRecursion (IsDeclared kinds) (names_of c)

-- ---- parts

each_named : (kinds : List Kind) (calls : List Call) → AllByRecursion (AreDeclared kinds) calls
    → AllByRecursion (IsWellNamed kinds) calls
each_named kinds [] h = tt
each_named kinds (c ∷ calls) h =
    (All-from_recursion (IsDeclared kinds) (names_of c) h.0, each_named kinds calls h.1)

each_apart : (calls : List Call) → AllByRecursion Fits calls → AllByRecursion IsApartFromCell calls
each_apart [] h = tt
each_apart (c ∷ calls) h = (h.0.1, each_apart calls h.1)

-- a thread that is a part of a program, with calls that texts spell
record IsSection (s : Section) : Type 0 where
  part : IsPart (part_in s)
  fits : AllByRecursion Fits s.calls

section_is : (s : Section) → length s.names ≤ 32
    → AllByRecursion (AreDeclared (kinds_in s.names)) s.calls
    → AllByRecursion Fits s.calls → IsSection s
section_is s few named fits = record {
  part = record {
    few = omega (arith, few, length-map s.names (λ (name : List ℕ × Kind). name.1));
    named =
        All-from_recursion (IsWellNamed (kinds_in s.names)) s.calls
        (each_named (kinds_in s.names) s.calls named);
    apart = All-from_recursion IsApartFromCell s.calls (each_apart s.calls fits);
  };
  fits = fits;
}

all-last : {A : Type 0} (P : A → Type 0) (xs : List A) (x : A) → AllByRecursion P xs → P x
    → AllByRecursion P (xs ++ x ∷ [])
all-last P [] x h k = (k, tt)
all-last P (y ∷ xs) x h k = (h.0, all-last P xs x h.1 k)

all_parts : (ss : List Section) → AllByRecursion IsSection ss
    → AllByRecursion IsPart (program_in ss)
all_parts [] h = tt
all_parts (s ∷ ss) h = (h.0.part, all_parts ss h.1)

count-last : (ss : List Section) (s : Section)
    → statement_count (ss ++ s ∷ []) ≡ statement_count ss + length s.calls
count-last ss s =
    let size : Part → ℕ = λ part. length part.calls in
    let one : sum_by size (part_in s ∷ []) ≡ length s.calls =
    omega (arith, sum_by-cons size (part_in s) []) in
    ap (sum_by size) (map-append part_in ss (s ∷ []))
    ∙ sum_by-append size (program_in ss) (part_in s ∷ [])
    ∙ ap (λ n. statement_count ss + n) one

-- ---- more names

found_more : (kinds more : List Kind) (n : ℕ) (kind : Option Kind)
    → IsNameFound kind (slice_get kinds n)
    → IsNameFound kind (slice_get (kinds ++ more) n)
found_more [] more n None h = absurd cc
found_more (k ∷ kinds) more zero None h = h
found_more (k ∷ kinds) more (suc n) None h = found_more kinds more n None h
found_more kinds more n (Some kind) h = slice_get-more kinds more n kind h

declared_more : (kinds more : List Kind) (asked : List Asked)
    → AllByRecursion (IsDeclared kinds) asked → AllByRecursion (IsDeclared (kinds ++ more)) asked
declared_more kinds more [] h = tt
declared_more kinds more (a ∷ asked) h =
    (found_more kinds more a.0.0 a.1 h.0, declared_more kinds more asked h.1)

named_more : (kinds more : List Kind) (calls : List Call) → AllByRecursion (AreDeclared kinds) calls
    → AllByRecursion (AreDeclared (kinds ++ more)) calls
named_more kinds more [] h = tt
named_more kinds more (c ∷ calls) h =
    (declared_more kinds more (names_of c) h.0, named_more kinds more calls h.1)

named_grown : (names new : NameList) (calls : List Call) → Grows names new
    → AllByRecursion (AreDeclared (kinds_in names)) calls
    → AllByRecursion (AreDeclared (kinds_in new)) calls
named_grown names new calls g h =
    let kinds : kinds_in new ≡ kinds_in names ++ kinds_in g.more =
    ap kinds_in g.grown ∙ map-append (λ (name : List ℕ × Kind). name.1) names g.more in
    rw kinds (named_more (kinds_in names) (kinds_in g.more) calls h)

-- ---- what stays true from line to line

-- the script so far is within the limits, its calls are well named, and texts spell them
record IsBounded (d : Draft) : Type 0 where
  count : d.count ≡ statement_count (sections d)
  calls : d.count ≤ 65536
  threads : length d.done + 1 ≤ most_threads d.version
  some_block : 64 ≤ blocks_in d.version
  blocks : blocks_in d.version ≤ 65535
  parts : AllByRecursion IsSection d.done
  few : length d.current.names ≤ 32
  named : AllByRecursion (AreDeclared (kinds_in d.current.names)) d.current.calls
  fits : AllByRecursion Fits d.current.calls

all_sections : (d : Draft) → IsBounded d → AllByRecursion IsSection (sections d)
all_sections d b =
    all-last IsSection d.done d.current b.parts (section_is d.current b.few b.named b.fits)

begun_bounded : (d : Draft) → length d.done + 1 < most_threads d.version → IsBounded d
    → IsBounded (with_thread d)
begun_bounded d room b = record {
  count = omega (arith, b.count, count-last (d.done ++ d.current ∷ []) no_section);
  calls = b.calls;
  threads = omega (arith, room, length-append d.done (d.current ∷ []));
  some_block = b.some_block;
  blocks = b.blocks;
  parts = all_sections d b;
  few = omega arith;
  named = tt;
  fits = tt;
}

added_bounded : (d e : Draft) (a : IsAdded d e) → IsBounded d
    → IsBounded (with_call d (a.call, a.names))
added_bounded d e a b = record {
  count =
      omega (
        arith,
        b.count,
        count-last d.done d.current,
        count-last d.done (with_call d (a.call, a.names)).current,
        length-append d.current.calls (a.call ∷ []),
      );
  calls = omega (arith, a.room);
  threads = b.threads;
  some_block = b.some_block;
  blocks = b.blocks;
  parts = b.parts;
  few = a.rewrites.grows.few b.few;
  named =
      all-last (AreDeclared (kinds_in a.names)) d.current.calls a.call
      (named_grown d.current.names a.names d.current.calls a.rewrites.grows b.named)
      a.rewrites.named;
  fits = all-last Fits d.current.calls a.call b.fits a.rewrites.fits;
}

-- before the first line of the threads
first_bounded : (version : Version) → 1 ≤ most_threads version → 64 ≤ blocks_in version
    → blocks_in version ≤ 65535
    → IsBounded (draft_in version)
first_bounded version threads least most = record {
  count = refl;
  calls = omega arith;
  threads = threads;
  some_block = least;
  blocks = most;
  parts = tt;
  few = omega arith;
  named = tt;
  fits = tt;
}

headed_bounded : (version : Version) → IsHeader version → IsBounded (draft_in version)
headed_bounded version h =
    subst (λ (v : Version). IsBounded (draft_in v)) h.is
    (first_bounded (Two h.blocks) (omega arith) h.least h.most)

change_bounded : (d e : Draft) → Change d e → IsBounded d → IsBounded e
change_bounded d e (skipped same) b = subst IsBounded same b
change_bounded d e (headed h) b = subst IsBounded h.now (headed_bounded h.version h.header)
change_bounded d e (began room same) b = subst IsBounded same (begun_bounded d room b)
change_bounded d e (added a) b = subst IsBounded a.now (added_bounded d e a b)

lines_bounded : (lines : List (List ℕ)) (d e : Draft) → Leads d lines e → IsBounded d → IsBounded e
lines_bounded [] d e h b = subst IsBounded h b
lines_bounded (line ∷ lines) d e h b =
    lines_bounded lines h.0 e h.2 (change_bounded d h.0 (line_change d h.0 line h.1) b)

start : IsBounded new_draft
start = first_bounded One (omega arith) (omega arith) (omega arith)

-- ---- a shape has the cells

cells_in : (shape : Shape) → HasTextCells shape → (cells : List CellName)
    → AllByRecursion IsTextCell cells
    → AllByRecursion (IsIn shape) cells
cells_in shape has [] h = tt
cells_in shape has (c ∷ cells) h = (text_cell_in shape has c h.0, cells_in shape has cells h.1)

calls_in : (shape : Shape) → HasTextCells shape → (calls : List Call) → AllByRecursion Fits calls
    → AllByRecursion (HasCells shape) calls
calls_in shape has [] h = tt
calls_in shape has (c ∷ calls) h = (
  All-from_recursion (IsIn shape) (cells_of c) (cells_in shape has (cells_of c) h.0.0),
  calls_in
      shape has calls h.1,
)

parts_in : (shape : Shape) → HasTextCells shape → (ss : List Section) → AllByRecursion IsSection ss
    → AllByRecursion (AllHaveCells shape) (program_in ss)
parts_in shape has [] h = tt
parts_in shape has (s ∷ ss) h = (
  All-from_recursion (HasCells shape) s.calls (calls_in shape has s.calls h.0.fits),
  parts_in
      shape has ss h.1,
)

pub script_is : (bytes : List ℕ) (d : Draft) (number : ℕ) → BeginsWithDraft bytes d number []
    → IsScript (script_of d) d.count
script_is bytes d number h =
    let b = lines_bounded h.lines new_draft d h.leads start in
    let again = round_trip bytes d number h in
    let threads : length (sections d) ≡ length d.done + 1 = length-append d.done (d.current ∷ []) in
    let parts : length (program_in (sections d)) ≡ length (sections d) =
    length-map (sections d) part_in in
    let few : length (sections d) ≤ 64 = omega (arith, threads, b.threads, most_allow d.version) in
    record {
      reads = again.same;
      converts = again.two;
      counted = b.count;
      threads = omega (arith, threads, b.threads);
      few = few;
      some_block = b.some_block;
      blocks = b.blocks;
      program = record {
        some = omega (arith, threads, parts);
        actors = omega (arith, parts, few);
        calls = omega (arith, b.count, b.calls);
        each =
            All-from_recursion IsPart (program_in (sections d))
            (all_parts (sections d) (all_sections d b));
      };
      cells = λ shape has.
          All-from_recursion (AllHaveCells shape) (program_in (sections d))
          (parts_in shape has (sections d) (all_sections d b));
    }

-- in version 2 it is a script too
pub converted_is : (script : ScriptView) (count : ℕ) → IsScript script count
    → IsScript (converted script) count
converted_is script count s = record {
  reads = s.converts;
  converts = s.converts;
  counted = s.counted;
  threads = s.few;
  few = s.few;
  some_block = s.some_block;
  blocks = s.blocks;
  program = s.program;
  cells = s.cells;
}
