-- The lines that a run writes, each without its line feed. All of it is own.
use Rattle.std.specs.Prelude.{ℕ, ◌-◌, ◌==◌, ◌++◌, Bool, true, cond, List, [], ◌∷◌, codes, decimal}
use Rattle.std.specs.Prelude.{Option, Some, None}
use Rattle.std.specs.List.{flat_map}
use Rattle.control_word.specs.declared.packed.counts.Counts.{Counts}
use Rattle.control_word.specs.declared.place.Place.{Place}
use Rattle.control_word.specs.Refusal.{refusal_number}
use Rattle.control_word.specs.State.{State}
use Rattle.step_threads.specs.declared.said.Answer.{Answer}
use Rattle.step_threads.specs.declared.said.Answer.TheVariants.{Count, Expired, Locked, Upgraded, Read, Same, Before}
use Rattle.step_threads.specs.declared.said.Answer.TheVariants.{Compared, Holds, Refused}
use Rattle.step_threads.specs.declared.said.Answer.TheVariants as answer
use Rattle.step_table.specs.declared.memory.ended.Ended.{Ended}
use Rattle.step_table.specs.declared.memory.ended.Ended.TheVariants.{Fields, Null}
use Rattle.step_threads.specs.declared.said.Said.{Said}
use Rattle.step_threads.specs.AbstractStates.{AbstractState, state_in}
use Rattle.step_threads.specs.Stocks.{from}
use Rattle.step_core.specs.Totals.{census_of, ended_in, made_in}
use Rattle.script_text.specs.Canonical.{number_after}
use Rattle.script_text.specs.Traces.{Item}

-- the number of a statement, from 1; a thread's end has none
abbrev pub statement_text : ℕ → List ℕ
statement_text statement = cond (statement == 0) (codes "end") (decimal statement)

-- how each line of a thread begins
abbrev pub line_start : ℕ → ℕ → List ℕ
line_start thread statement = decimal thread ++ codes "." ++ statement_text statement ++ codes " "

-- whether something is so
abbrev pub yes_or_no : Bool → List ℕ
yes_or_no is_so = cond is_so (codes "yes") (codes "no")

-- what came of a lock
abbrev pub locked_word : Bool → List ℕ
locked_word is_owner = cond is_owner (codes "owner") (codes "empty")

-- a block and a field of its object, or null
abbrev pub place_text : Option Place → List ℕ
place_text None = codes "null"
place_text (Some place) = decimal place.block.0 ++ codes "." ++ decimal place.field

abbrev pub answer_text : Answer → List ℕ
answer_text (Count n) = codes "count " ++ decimal n
answer_text (Expired is_expired) = codes "expired " ++ yes_or_no is_expired
answer_text (Locked is_owner) = codes "lock " ++ locked_word is_owner
answer_text Upgraded = codes "upgrade " ++ locked_word true
answer_text (Read value) = codes "read " ++ decimal value
answer_text (answer.Place place) = codes "place " ++ place_text place
answer_text (Same is_same) = codes "same " ++ yes_or_no is_same
answer_text (Before is_before) = codes "before " ++ yes_or_no is_before
answer_text (Compared is_equivalent) = codes "compare " ++ yes_or_no is_equivalent
answer_text (Holds is_held) = codes "holds " ++ yes_or_no is_held
answer_text (Refused why) = codes "refused " ++ decimal (refusal_number why)

abbrev pub ended_text : Ended → List ℕ
ended_text (Fields fields) = codes "end" ++ flat_map number_after fields
ended_text Null = codes "end null"

-- a line where there is something to tell
abbrev pub line_of : {A : Type 0} → (A → List ℕ) → Option A → List (List ℕ)
line_of text None = []
line_of text (Some x) = text x ∷ []

-- the lines of an act: its answer, and then the object that ended by it
abbrev pub said_lines : ℕ → Said → List (List ℕ)
said_lines thread x =
    line_of (λ a. line_start thread x.statement ++ answer_text a) x.answer ++ line_of
    (λ e. line_start thread x.statement ++ ended_text e) x.ended

abbrev pub item_lines : Item → List (List ℕ)
item_lines item = said_lines item.0 item.1

-- owners and weak handles of a block, without the one that the owners have in common
abbrev pub block_text : ℕ → Counts → List ℕ
block_text block counts = codes "block " ++ decimal block ++ codes " owners " ++ decimal counts.owners
    ++ codes " weaks " ++ decimal counts.weaks

-- the line of a block that isn't vacant
abbrev pub block_lines : State → ℕ → List (List ℕ)
block_lines s block = line_of (block_text block) (census_of s block)

-- those of all blocks, in order
abbrev pub census_lines : ℕ → State → List (List ℕ)
census_lines blocks s = flat_map (block_lines s) (from 1 blocks)

abbrev pub totals_text : ℕ → ℕ → List ℕ
totals_text made over = codes "made " ++ decimal made ++ codes " ended " ++ decimal over ++ codes " left "
    ++ decimal (made - over)

-- the census of an abstract state, and the totals of its history
abbrev pub closing_lines : AbstractState → List (List ℕ)
closing_lines c = census_lines c.extent.shape.blocks (state_in c) ++ totals_text (made_in c.history)
    (ended_in c.history) ∷ []

-- all lines of a run that says this and ends so
abbrev pub run_lines : List Item → AbstractState → List (List ℕ)
run_lines items last = flat_map item_lines items ++ closing_lines last
