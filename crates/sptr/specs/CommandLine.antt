-- The command line that the program takes, and what its words ask for, by what `clap` makes of such
-- a line. All of it is own.
use Rattle.std.specs.Prelude.{◌≡◌, ◌≢◌, ◌⊎◌, ◌&&◌, if◌then◌else◌, ℕ, Bool, true, false, cond, nat_lt, List, []}
use Rattle.std.specs.Prelude.{◌∷◌, ◌++◌, slice_get, Option, Some, None, option_map, option_and_then}
use Rattle.std.specs.Prelude.{unwrap_or, is_some, codes, decimal, IfOk, Result}
use Rattle.clap.specs.Kinds.{Kinds, or_else}
use Rattle.clap.specs.Words.{App, Row, Rule, Shape, Text, app_of, count_of, fault_of, first_of, new_rule}
use Rattle.clap.specs.declared.error.kind.ErrorKind.TheVariants.{ArgumentConflict}
use Rattle.clap.specs.Words.{shape_of, subcommand_of, with_subcommand}
use Rattle.clap.specs.declared.builder.command.Command.{Command}
use Rattle.clap.specs.declared.builder.command.Command.TheViews.{out-Command}
use Rattle.std.specs.declared.alloc.AllocError.{AllocError}
use Rattle.clap.specs.declared.builder.action.ArgAction.TheVariants.{Count}
use Rattle.clap.specs.Simple.{new_shape}
use Rattle.script_picture.specs.declared.part.Part.{Part}
use Rattle.sptr.specs.Parts.{IsPart, all_acts, most_named, most_states, part_named}
use Rattle.sptr.specs.declared.command.Asked.{Asked}
use Rattle.sptr.specs.declared.command.Asked.TheVariants.{Check, Convert, Draw, Fine, Left, Orders}
use Rattle.sptr.specs.declared.command.Asked.TheVariants.{OrdersPage, Owners, Run, Step}

-- `FILE`, the script
unfoldable pub file_word : Rule
file_word = record (new_rule (codes "file")) { value_names = 1 }

-- `--NAME VALUE`
unfoldable pub option_rule : Text → Rule
option_rule name = record (new_rule name) { long = Some name; value_names = 1 }

-- `--NAME`
unfoldable pub flag_rule : Text → Rule
flag_rule name = record (new_rule name) { long = Some name; action = Some Count }

-- a command that takes a script
unfoldable pub script_line : Text → Shape
script_line name = record (new_shape name) { rules = file_word ∷ [] }

-- one that takes a list of turns too
unfoldable pub turns_line : Text → Shape
turns_line name = record (new_shape name) {
  rules = file_word ∷ option_rule (codes "turns") ∷ option_rule (codes "turns-file") ∷ [];
}

-- `left`, which also takes how to tell it
unfoldable pub left_line : Shape
left_line = record (new_shape (codes "left")) {
  rules = file_word ∷ option_rule (codes "turns") ∷ option_rule (codes "turns-file")
      ∷ flag_rule (codes "dot") ∷ [];
}

-- `draw`, which also takes how and what to draw
unfoldable pub draw_line : Shape
draw_line = record (new_shape (codes "draw")) {
  rules = file_word ∷ option_rule (codes "turns") ∷ option_rule (codes "turns-file")
      ∷ flag_rule (codes "fine") ∷ flag_rule (codes "page")
      ∷ option_rule (codes "from") ∷ option_rule (codes "to") ∷ [];
}

-- `owners`, which takes a graph, and how to tell it
unfoldable pub owners_line : Shape
owners_line = record (new_shape (codes "owners")) {
  rules = file_word ∷ flag_rule (codes "dot") ∷ [];
}

-- `orders`, which takes a script, the line that is to be found, how many states are seen, and how to
-- tell it
unfoldable pub orders_line : Shape
orders_line = record (new_shape (codes "orders")) {
  rules = file_word ∷ option_rule (codes "find") ∷ option_rule (codes "most")
      ∷ flag_rule (codes "page") ∷ [];
}

-- the program's name
unfoldable pub bare : App
bare = record {
  top = record (new_shape (codes "sptr")) { subcommand_required = true; has_version = true };
  subs = [];
}

-- the program's name, and then one of the nine
unfoldable pub program : App
program = record {
  top = record (new_shape (codes "sptr")) {
    is_leaf = false;
    subcommand_required = true;
    has_version = true;
  };
  subs = script_line (codes "check") ∷ script_line (codes "convert") ∷ turns_line (codes "step")
      ∷ turns_line (codes "fine") ∷ script_line (codes "run") ∷ left_line ∷ draw_line ∷ owners_line
      ∷ orders_line ∷ [];
}

-- `new` is `old` with this command too, the last
abbrev pub AddsCommand : Result Command AllocError → Result Command AllocError → Command → Type 0
AddsCommand old command new = (app : App) (line : Shape) → IfOk old (λ c. app_of c ≡ app)
    → IfOk command (λ c. shape_of c ≡ line)
    → IfOk command (λ c. (out-Command c).has_globals ≡ false)
    → app_of new ≡ with_subcommand app line

-- the command that the words name
abbrev pub command_named : List Text → Option Text
command_named words = option_map (λ found. found.0) (subcommand_of program words)

-- what a command was given for this, if it was
abbrev pub word_in : Text → Option (Text × List Row) → Option Text
word_in id found = option_and_then (λ (command : Text × List Row). first_of id command.1) found

-- a list of turns, or else a line that is to be found, or no text
abbrev pub list_or_line : Option Text → Option Text → Text
list_or_line (Some list) line = list
list_or_line None line = unwrap_or line []

-- the list that `--turns` gives a command, or the line that `--find` does, or no text
abbrev pub turns_in : Option (Text × List Row) → Text
turns_in found = list_or_line (word_in (codes "turns") found) (word_in (codes "find") found)

-- the same of the command that the words name
abbrev pub word_given : Text → List Text → Option Text
word_given id words = word_in id (subcommand_of program words)

abbrev pub turns_given : List Text → Text
turns_given words = turns_in (subcommand_of program words)

-- whether the words name a file of the script or the graph, and one of the list of turns
abbrev pub names_text : List Text → Bool
names_text words = is_some (word_given (codes "file") words)

abbrev pub names_list : List Text → Bool
names_list words = is_some (word_given (codes "turns-file") words)

-- how often a command was given this
abbrev pub count_in : Text → Option (Text × List Row) → ℕ
count_in id None = 0
count_in id (Some command) = count_of id command.1

-- whether `--fine` is there, so that the run is drawn by single steps
abbrev pub fine_given : List Text → Bool
fine_given words = nat_lt 0 (count_in (codes "fine") (subcommand_of program words))

-- whether `--page` is there, so that the run is shown on a page
abbrev pub page_given : List Text → Bool
page_given words = nat_lt 0 (count_in (codes "page") (subcommand_of program words))

-- the part of the run that `--from` and `--to` name
abbrev pub part_given : List Text → Option Part
part_given words = part_named (word_given (codes "from") words) (word_given (codes "to") words)

-- whether `--find` gives a line
abbrev pub finds_given : List Text → Bool
finds_given words = is_some (word_given (codes "find") words)

-- whether a command was given a line that is to be found, and is to write a page
abbrev pub finds_on_page : Option (Text × List Row) → Bool
finds_on_page found = nat_lt 0 (count_in (codes "page") found) && is_some (word_in (codes "find") found)

-- the faults of words: those that `clap` finds, or else that they ask for a line and for a page
abbrev pub faults_of : List Text → Kinds
faults_of words = or_else (fault_of program words)
    (if finds_on_page (subcommand_of program words) then ArgumentConflict ∷ [] else [])

-- how many states are seen at most
abbrev pub most_given : List Text → Option ℕ
most_given words = most_named (word_given (codes "most") words)

-- whether `--dot` is there, so that what is left, or the graph, is drawn
abbrev pub draws_given : List Text → Bool
draws_given words = nat_lt 0 (count_in (codes "dot") (subcommand_of program words))

-- the words ask for this
abbrev pub AsksFor : List Text → Asked → Type 0
AsksFor words Check = command_named words ≡ Some (codes "check")
AsksFor words Convert = command_named words ≡ Some (codes "convert")
AsksFor words Step = command_named words ≡ Some (codes "step")
AsksFor words Fine = command_named words ≡ Some (codes "fine")
AsksFor words Run = command_named words ≡ Some (codes "run")
AsksFor words (Left draws) =
    (command_named words ≡ Some (codes "left")) × (draws ≡ draws_given words)
AsksFor words (Draw is_fine is_page part) =
    (command_named words ≡ Some (codes "draw")) × (is_fine ≡ fine_given words)
    × (is_page ≡ page_given words) × (part ≡ part_given words)
AsksFor words (Owners draws) =
    (command_named words ≡ Some (codes "owners")) × (draws ≡ draws_given words)
AsksFor words (Orders finds most) =
    (command_named words ≡ Some (codes "orders")) × (page_given words ≡ false)
    × (finds ≡ finds_given words) × (most ≡ most_given words)
AsksFor words (OrdersPage most) =
    (command_named words ≡ Some (codes "orders")) × (page_given words ≡ true)
    × (most ≡ most_given words)

-- the words are the program's name, this command and these options, and then no list, or
-- `--turns=LIST`
abbrev pub IsJoinedLine : Text → List Text → Text → Text → List Text → Type 0
IsJoinedLine command options name list words =
    ((words ≡ name ∷ command ∷ options) × (list ≡ []))
    ⊎ (words ≡ name ∷ command ∷ options ++ (codes "--turns=" ++ list) ∷ [])

-- or `--turns LIST`, with a list that begins with no `-` (45)
abbrev pub IsLine : Text → List Text → Text → Text → List Text → Type 0
IsLine command options name list words = IsJoinedLine command options name list words
    ⊎ ((words ≡ name ∷ command ∷ options ++ codes "--turns" ∷ list ∷ [])
    × (slice_get list 0 ≢ Some 45))

-- the option that has what is left drawn
abbrev pub dot_words : Bool → List Text
dot_words draws = cond draws (codes "--dot" ∷ []) []

-- the option that has a run by single steps drawn
abbrev pub fine_words : Bool → List Text
fine_words is_fine = cond is_fine (codes "--fine" ∷ []) []

-- the options that name a part by its first and its last act, in decimal numbers
abbrev pub part_words : Part → List Text
part_words part =
    (codes "--from=" ++ decimal part.first) ∷ (codes "--to=" ++ decimal part.last) ∷ []

-- the words ask for the picture of this part, which is all acts where no option names one; or for the
-- page of all acts
abbrev pub IsDrawLine : Bool → Bool → Option Part → Text → Text → List Text → Type 0
IsDrawLine is_fine is_page None name list words = ⊥
IsDrawLine is_fine true (Some part) name list words =
    (part ≡ all_acts)
    × IsLine (codes "draw") (fine_words is_fine ++ codes "--page" ∷ []) name list words
IsDrawLine is_fine false (Some part) name list words =
    ((part ≡ all_acts) × IsLine (codes "draw") (fine_words is_fine) name list words)
    ⊎ (IsPart part
    × IsJoinedLine (codes "draw") (fine_words is_fine ++ part_words part) name list words)

-- the words ask for a script's orders, or for the first one that tells a line
abbrev pub IsOrdersLine : Bool → Text → Text → List Text → Type 0
IsOrdersLine false name line words = (words ≡ name ∷ codes "orders" ∷ []) × (line ≡ [])
IsOrdersLine true name line words =
    words ≡ name ∷ codes "orders" ∷ (codes "--find=" ++ line) ∷ []

-- a command of this name, which was given this, asks for this
abbrev pub IsAskedBy : Text → List Row → Asked → Type 0
IsAskedBy name rows Check = (name ≢ codes "convert") × (name ≢ codes "step") × (name ≢ codes "fine")
    × (name ≢ codes "run") × (name ≢ codes "left") × (name ≢ codes "draw")
    × (name ≢ codes "owners") × (name ≢ codes "orders")
IsAskedBy name rows Convert = name ≡ codes "convert"
IsAskedBy name rows Step = name ≡ codes "step"
IsAskedBy name rows Fine = name ≡ codes "fine"
IsAskedBy name rows Run = name ≡ codes "run"
IsAskedBy name rows (Left draws) =
    (name ≡ codes "left") × (draws ≡ nat_lt 0 (count_of (codes "dot") rows))
IsAskedBy name rows (Draw is_fine is_page part) =
    (name ≡ codes "draw") × (is_fine ≡ nat_lt 0 (count_of (codes "fine") rows))
    × (is_page ≡ nat_lt 0 (count_of (codes "page") rows))
    × (part ≡ part_named (first_of (codes "from") rows) (first_of (codes "to") rows))
IsAskedBy name rows (Owners draws) =
    (name ≡ codes "owners") × (draws ≡ nat_lt 0 (count_of (codes "dot") rows))
IsAskedBy name rows (Orders finds most) =
    (name ≡ codes "orders") × (nat_lt 0 (count_of (codes "page") rows) ≡ false)
    × (finds ≡ is_some (first_of (codes "find") rows))
    × (most ≡ most_named (first_of (codes "most") rows))
IsAskedBy name rows (OrdersPage most) =
    (name ≡ codes "orders") × (nat_lt 0 (count_of (codes "page") rows) ≡ true)
    × (most ≡ most_named (first_of (codes "most") rows))

-- the words ask for this, with this list of turns, in the manner of the program's page
abbrev pub AsksPlainly : List Text → Asked → List ℕ → Type 0
AsksPlainly words Check list = (name : Text) × (words ≡ name ∷ codes "check" ∷ []) × (list ≡ [])
AsksPlainly words Convert list = (name : Text) × (words ≡ name ∷ codes "convert" ∷ []) × (list ≡ [])
AsksPlainly words Step list = (name : Text) × IsLine (codes "step") [] name list words
AsksPlainly words Fine list = (name : Text) × IsLine (codes "fine") [] name list words
AsksPlainly words Run list = (name : Text) × (words ≡ name ∷ codes "run" ∷ []) × (list ≡ [])
AsksPlainly words (Left draws) list =
    (name : Text) × IsLine (codes "left") (dot_words draws) name list words
AsksPlainly words (Draw is_fine is_page part) list =
    (name : Text) × IsDrawLine is_fine is_page part name list words
AsksPlainly words (Owners draws) list =
    (name : Text) × (words ≡ name ∷ codes "owners" ∷ dot_words draws) × (list ≡ [])
AsksPlainly words (Orders finds most) list =
    (name : Text) × IsOrdersLine finds name list words × (most ≡ Some most_states)
AsksPlainly words (OrdersPage most) list =
    (name : Text) × (words ≡ name ∷ codes "orders" ∷ codes "--page" ∷ []) × (list ≡ [])
    × (most ≡ Some most_states)

-- the words are the program's name and `--help`
abbrev pub AsksHelp : List Text → Type 0
AsksHelp words = (name : Text) × (words ≡ name ∷ codes "--help" ∷ [])

-- the words are the program's name and `--version`
abbrev pub AsksVersion : List Text → Type 0
AsksVersion words = (name : Text) × (words ≡ name ∷ codes "--version" ∷ [])

-- the words are the program's name alone
abbrev pub NamesNoCommand : List Text → Type 0
NamesNoCommand words = (name : Text) × (words ≡ name ∷ [])
