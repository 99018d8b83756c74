-- Lists of turns.
use Rattle.std.specs.Prelude.{◌≡◌, ℕ, ◌+◌, ◌==◌, ◌&&◌, Bool, not, List, [], ◌∷◌, length}
use Rattle.std.specs.Prelude.{Option, Some, None, Result, Ok, Err, nat_lt, nat_le}
use Rattle.std.specs.Prelude.{if◌then◌else◌, slice_index}
use Rattle.std.specs.List.{list_all, slice_split}
use Rattle.std.specs.Global.{Vec}
use Rattle.std.specs.Str.Parse.{digits_value}
use Rattle.script_text.specs.declared.fault.Fault.{Fault}
use Rattle.script_text.specs.declared.fault.Fault.TheVariants as fault
use Rattle.script_text.specs.Words.{is_digit}

abbrev pub is_comma : ℕ → Bool
is_comma b = b == 44

-- digits, of which the first is not 0, of a number up to that of the threads
abbrev pub is_turn : ℕ → List ℕ → Bool
is_turn threads word = nat_lt 0 (length word) && not (slice_index word 0 == 48) && list_all is_digit word
    && nat_le (digits_value 10 word) threads

abbrev pub turn_at : ℕ → List ℕ → Option ℕ
turn_at threads word = if is_turn threads word then Some (digits_value 10 word) else None

abbrev pub with_first : Option ℕ → ℕ → Result (List ℕ) ℕ → Result (List ℕ) ℕ
with_first None place others = Err place
with_first (Some turn) place (Ok turns) = Ok (turn ∷ turns)
with_first (Some turn) place (Err later) = Err later

-- the turns from a place on, or the place of the first that is none
abbrev pub turns_from : ℕ → ℕ → List (List ℕ) → Result (List ℕ) ℕ
turns_from threads place [] = Ok []
turns_from threads place (word ∷ words) =
    with_first (turn_at threads word) place (turns_from threads (place + 1) words)

-- the turns of a list, or the place of the first faulty one, from 1. Empty bytes are no turns
unfoldable pub list_at : ℕ → List ℕ → Result (List ℕ) ℕ
list_at threads [] = Ok []
list_at threads (b ∷ bs) = turns_from threads 1 (slice_split is_comma (b ∷ bs))

-- want of memory, or the position of the first faulty number
abbrev pub FaultIs : Fault → Result (List ℕ) ℕ → Type 0
FaultIs fault.Memory read = Unit {0}
FaultIs (fault.Syntax line cause) read = ⊥
FaultIs (fault.BadTurn position) read = read ≡ Err position
FaultIs fault.Output read = ⊥
FaultIs fault.Input read = ⊥

abbrev pub AnswersTurns : Result (Vec ℕ) Fault → Result (List ℕ) ℕ → Type 0
AnswersTurns (Ok turns) read = read ≡ Ok turns.items
AnswersTurns (Err f) read = FaultIs f read
