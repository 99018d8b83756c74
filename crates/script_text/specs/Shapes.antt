-- The words after the first one: a definition for each shape of statement. `T` is a target, `O` a
-- source, `Y` a source of either kind, `n` a number, `F` a field, `C` a cell and `X` a source of
-- its kind. Words are looked at from left to right, but a cell that gives its kind to a target
-- before it comes first, and a target is declared after all other checks.
use Rattle.std.specs.Prelude.{ℕ, List, [], ◌∷◌, map, Option, Some, None, Result, Ok, Err, codes}
use Rattle.std.specs.Prelude.{if◌then◌else◌, slice_get}
use Rattle.std.specs.Str.{bytes_eq}
use Rattle.std.specs.Borrow.{Bor}
use Rattle.step_threads.specs.declared.programs.call.CellName.{CellName}
use Rattle.step_table.specs.declared.memory.field.Field.{Field}
use Rattle.control_word.specs.declared.model.handle.Kind.{Kind}
use Rattle.control_word.specs.declared.model.handle.Kind.TheVariants.{Owner}
use Rattle.step_threads.specs.declared.programs.call.Name.{Name}
use Rattle.script_text.specs.declared.fault.Cause.{Cause}
use Rattle.script_text.specs.declared.fault.Cause.TheVariants.{WrongNumberOfWords}
use Rattle.text_lines.specs.Reading.{◌>>=◌}
use Rattle.script_text.specs.Words.{number_at, field_of_word}
use Rattle.script_text.specs.Names.{NameList, asked_source_at, source_at, target_at, declared}
use Rattle.step_threads.specs.Programs.{kind_at}
use Rattle.script_text.specs.Cells.{apart, cell_of_word}

-- the words, without where they lie in memory
abbrev pub texts : List (Bor (List ℕ)) → List (List ℕ)
texts words = map (λ w. w.now) words

-- `T`
unfoldable pub one_target : NameList → Kind → List (List ℕ) → Result (Name × NameList) Cause
one_target names kind (word ∷ []) = do
  name ← target_at names kind word
  declared names kind name
one_target names kind _ = Err WrongNumberOfWords

-- `O`, which declares nothing
unfoldable pub one_source : NameList → Kind → List (List ℕ) → Result (Name × NameList) Cause
one_source names kind (word ∷ []) = do
  source ← source_at names kind word
  Ok (source, names)
one_source names kind _ = Err WrongNumberOfWords

-- `T O`
unfoldable pub target_and_source : NameList → Kind → Kind → List (List ℕ)
    → Result ((Name × Name) × NameList) Cause
target_and_source names to from (target ∷ other ∷ []) = do
  name ← target_at names to target
  source ← source_at names from other
  new ← declared names to name
  Ok ((new.0, source), new.1)
target_and_source names to from _ = Err WrongNumberOfWords

-- `Y Y`, each of the kind that is asked for, if one is
unfoldable pub two_sources : NameList → Option Kind → List (List ℕ)
    → Result ((Name × Name) × NameList) Cause
two_sources names asked (one ∷ other ∷ []) = do
  first ← asked_source_at names asked one
  second ← asked_source_at names asked other
  Ok ((first, second), names)
two_sources names asked _ = Err WrongNumberOfWords

-- `C X`
unfoldable pub cell_and_source : NameList → List (List ℕ)
    → Result ((CellName × Name) × NameList) Cause
cell_and_source names (one ∷ other ∷ []) = do
  cell ← cell_of_word names one
  source ← source_at names (kind_at cell) other
  Ok ((cell, source), names)
cell_and_source names _ = Err WrongNumberOfWords

-- `C X`, where the cell is no member of what X owns
unfoldable pub cell_and_other : NameList → List (List ℕ)
    → Result ((CellName × Name) × NameList) Cause
cell_and_other names words = cell_and_source names words >>= apart

-- `T C`: the target has the cell's kind
unfoldable pub target_and_cell : NameList → List (List ℕ)
    → Result ((Name × CellName) × NameList) Cause
target_and_cell names (target ∷ one ∷ []) = do
  cell ← cell_of_word names one
  name ← target_at names (kind_at cell) target
  new ← declared names (kind_at cell) name
  Ok ((new.0, cell), new.1)
target_and_cell names _ = Err WrongNumberOfWords

-- `C X X`
unfoldable pub cell_and_sources : NameList → List (List ℕ)
    → Result ((CellName × Name × Name) × NameList) Cause
cell_and_sources names (one ∷ other ∷ last ∷ []) = do
  cell ← cell_of_word names one
  expected ← source_at names (kind_at cell) other
  desired ← source_at names (kind_at cell) last
  Ok ((cell, expected, desired), names)
cell_and_sources names _ = Err WrongNumberOfWords

-- where an alias points: at a field of what a name points into, or at null
abbrev pub Aim : Type 0
Aim = Option (Name × Field)

-- the field of what the source points into
abbrev pub aim_of : Name → List ℕ → Result Aim Cause
aim_of name word = do
  field ← field_of_word word
  Ok (Some (name, field))

-- the field of what another name points into
abbrev pub aim_at_other : NameList → List ℕ → List ℕ → Result Aim Cause
aim_at_other names other word = do
  of ← source_at names Owner other
  aim_of of word

-- `null`, `F` of the source, or `O F`
unfoldable pub aim_at : NameList → Name → List (List ℕ) → Result Aim Cause
aim_at names source (last ∷ []) =
    if bytes_eq last (codes "null") then Ok None else aim_of source last
aim_at names source (other ∷ last ∷ []) = do
  of ← source_at names Owner other
  aim_of of last
aim_at names source _ = Err WrongNumberOfWords

-- `T O null`, `T O F` or `T O O F`
unfoldable pub alias_at : NameList → List (List ℕ) → Result (((Name × Name) × Aim) × NameList) Cause
alias_at names (target ∷ other ∷ aims) = do
  name ← target_at names Owner target
  source ← source_at names Owner other
  aim ← aim_at names source aims
  new ← declared names Owner name
  Ok (((new.0, source), aim), new.1)
alias_at names _ = Err WrongNumberOfWords

-- a number that may be left out, and is 0 then
abbrev pub number_if : Option (List ℕ) → Result ℕ Cause
number_if None = Ok 0
number_if (Some word) = number_at word

-- the number with this place
abbrev pub number_or_zero : List (List ℕ) → ℕ → Result ℕ Cause
number_or_zero words place = number_if (slice_get words place)

-- `[n [n [n [n]]]]`
unfoldable pub fields_at : List (List ℕ) → Result (List ℕ) Cause
fields_at words = do
  first ← number_or_zero words 0
  second ← number_or_zero words 1
  third ← number_or_zero words 2
  fourth ← number_or_zero words 3
  Ok (first ∷ second ∷ third ∷ fourth ∷ [])

-- `T [n [n [n [n]]]]`
unfoldable pub target_and_fields : NameList → List (List ℕ)
    → Result ((Name × List ℕ) × NameList) Cause
target_and_fields names [] = Err WrongNumberOfWords
target_and_fields names (target ∷ numbers) = do
  name ← target_at names Owner target
  fields ← fields_at numbers
  new ← declared names Owner name
  Ok ((new.0, fields), new.1)
