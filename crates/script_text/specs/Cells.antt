-- The cells that words are: free ones, and members of what a name owns.
use Rattle.std.specs.Prelude.{ℕ, ◌==◌, ◌++◌, Bool, List, [], ◌∷◌, Option, Some, None, Result, Ok}
use Rattle.std.specs.Prelude.{Err}
use Rattle.std.specs.Prelude.{codes, cond, decimal, if◌then◌else◌}
use Rattle.std.specs.Option.{option_map}
use Rattle.std.specs.Str.{bytes_eq}
use Rattle.step_threads.specs.declared.programs.call.CellName.{CellName}
use Rattle.step_threads.specs.declared.programs.call.CellName.TheVariants as cell
use Rattle.control_word.specs.declared.model.handle.Kind.TheVariants.{Owner}
use Rattle.step_threads.specs.declared.programs.call.Name.{Name}
use Rattle.script_text.specs.declared.fault.Cause.{Cause}
use Rattle.script_text.specs.declared.fault.Cause.TheVariants.{BadCell, NameUsedTwice}
use Rattle.step_threads.specs.Programs.{is_member_of}
use Rattle.text_lines.specs.Reading.{◌>>=◌}
use Rattle.script_text.specs.Words.{free_cell_at, is_name}
use Rattle.script_text.specs.Names.{NameList, name_text, source_at}

-- the byte between a name and a member
abbrev pub is_dot : ℕ → Bool
is_dot b = b == 46

-- what stands before the first dot and what after it, where there is one
abbrev pub split_dot : List ℕ → Option (List ℕ × List ℕ)
split_dot [] = None
split_dot (b ∷ bs) =
    if is_dot b then Some ([], bs) else option_map (λ p. (b ∷ p.0, p.1)) (split_dot bs)

-- the number of a member by its name
unfoldable pub member_number_at : List ℕ → Result ℕ Cause
member_number_at word =
    if bytes_eq word (codes "first") then Ok 0
    else (if bytes_eq word (codes "next") then Ok 1
    else (if bytes_eq word (codes "up") then Ok 2 else Err BadCell))

-- a member of what an owner name owns: both are well formed before the name is looked up
unfoldable pub member_at : NameList → List ℕ → List ℕ → Result CellName Cause
member_at names name word =
    if is_name name
    then (member_number_at word >>= λ m. source_at names Owner name >>= λ k. Ok (cell.Member k m))
    else Err BadCell

-- a word with a dot is a member, another a free cell
abbrev pub cell_by : NameList → List ℕ → Option (List ℕ × List ℕ) → Result CellName Cause
cell_by names word None = free_cell_at word
cell_by names word (Some parts) = member_at names parts.0 parts.1

-- the cell that a word is
unfoldable pub cell_of_word : NameList → List ℕ → Result CellName Cause
cell_of_word names word = cell_by names word (split_dot word)

-- a name isn't exchanged with a member of what it owns
abbrev pub apart : (CellName × Name) × NameList → Result ((CellName × Name) × NameList) Cause
apart read = if is_member_of read.0.0 read.0.1 then Err NameUsedTwice else Ok read

-- how a member is spelled
abbrev pub member_text : ℕ → List ℕ
member_text m = cond (m == 0) (codes "first") (cond (m == 1) (codes "next") (codes "up"))

-- how a cell is spelled
abbrev pub cell_text : NameList → CellName → List ℕ
cell_text names (cell.Shared n) = codes "s" ++ decimal n
cell_text names (cell.Weak n) = codes "w" ++ decimal n
cell_text names (cell.Member k m) = name_text names k ++ (codes "." ++ member_text m)
