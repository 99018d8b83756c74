-- The names of a thread, and what a word stands for.
use Rattle.std.specs.Prelude.{ℕ, ◌+◌, ◌++◌, String, List, [], ◌∷◌, length, map}
use Rattle.std.specs.Prelude.{Option, Some, None, Result, Ok, Err, nat_lt, if◌then◌else◌, slice_get}
use Rattle.std.specs.Option.{option_map}
use Rattle.std.specs.Str.{bytes_eq}
use Rattle.std.specs.String.{string_bytes}
use Rattle.control_word.specs.declared.model.handle.Kind.{Kind}
use Rattle.step_threads.specs.declared.programs.call.Name.{Name}
use Rattle.script_text.specs.declared.fault.Cause.{Cause}
use Rattle.script_text.specs.declared.fault.Cause.TheVariants.{UnknownName, WrongKindOfName}
use Rattle.script_text.specs.declared.fault.Cause.TheVariants.{TooManyNames}
use Rattle.text_lines.specs.Reading.{◌>>=◌}
use Rattle.script_text.specs.Words.{name_at}
use Rattle.control_word.specs.Handles.{same_kind}

-- the names with their kinds, in the order of their declarations; a name's number is its place
abbrev pub NameList : Type 0
NameList = List (List ℕ × Kind)

-- the names of a table
abbrev pub names_in : {A : Type 0} → List (String A × Kind) → NameList
names_in entries = map (λ e. (string_bytes e.0, e.1)) entries

-- the name with this number
abbrev pub numbered : ℕ → Name
numbered number = record { 0 = number }

-- a name's number and kind
abbrev pub find_name : List ℕ → NameList → Option (ℕ × Kind)
find_name name [] = None
find_name name (n ∷ ns) =
    if bytes_eq name n.0 then Some (0, n.1)
    else option_map (λ p. (p.0 + 1, p.1)) (find_name name ns)

-- a source is declared, and of this kind
abbrev pub found_source : Kind → Option (ℕ × Kind) → Result Name Cause
found_source kind None = Err UnknownName
found_source kind (Some found) =
    if same_kind found.1 kind then Ok (numbered found.0) else Err WrongKindOfName

-- the source that a word names
unfoldable pub source_at : NameList → Kind → List ℕ → Result Name Cause
source_at names kind word = do
  name ← name_at word
  found_source kind (find_name name names)

-- a source is declared, with whatever kind
abbrev pub found_any : Option (ℕ × Kind) → Result Name Cause
found_any None = Err UnknownName
found_any (Some found) = Ok (numbered found.0)

-- the source of either kind that a word names
unfoldable pub any_source_at : NameList → List ℕ → Result Name Cause
any_source_at names word = do
  name ← name_at word
  found_any (find_name name names)

-- the source that a word names, of the kind that is asked for, if one is
abbrev pub asked_source_at : NameList → Option Kind → List ℕ → Result Name Cause
asked_source_at names None word = any_source_at names word
asked_source_at names (Some kind) word = source_at names kind word

-- a target is a new name, or one of this kind
abbrev pub found_target : Kind → List ℕ → Option (ℕ × Kind) → Result (List ℕ) Cause
found_target kind name None = Ok name
found_target kind name (Some found) =
    if same_kind found.1 kind then Ok name else Err WrongKindOfName

-- the target that a word names
unfoldable pub target_at : NameList → Kind → List ℕ → Result (List ℕ) Cause
target_at names kind word = do
  name ← name_at word
  found_target kind name (find_name name names)

-- a target, and the names with it: a new name goes last, as one of at most 32
abbrev pub declared_at : NameList → Kind → List ℕ → Option (ℕ × Kind)
    → Result (Name × NameList) Cause
declared_at names kind name (Some found) = Ok (numbered found.0, names)
declared_at names kind name None =
    if nat_lt (length names) 32 then Ok (numbered (length names), names ++ (name, kind) ∷ [])
    else Err TooManyNames

-- the declaration of a target
unfoldable pub declared : NameList → Kind → List ℕ → Result (Name × NameList) Cause
declared names kind name = declared_at names kind name (find_name name names)

-- the text of a name that a table may have
abbrev pub text_of_entry : Option (List ℕ × Kind) → List ℕ
text_of_entry None = []
text_of_entry (Some entry) = entry.0

-- how a name is spelled
abbrev pub name_text : NameList → Name → List ℕ
name_text names name = text_of_entry (slice_get names name.0)
