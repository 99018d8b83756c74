-- The part of a run, and the number of states, that a command line names (own).
use Rattle.std.specs.Prelude.{◌^◌, ◌<◌, ◌≤◌, ◌&&◌, ℕ, Option, Some, None, if◌then◌else◌, nat_le}
use Rattle.std.specs.Prelude.{nat_lt}
use Rattle.std.specs.Str.Parse.{digits_value, without_leading_plus}
use Rattle.clap.specs.ValueTests.{is_numeral}
use Rattle.clap.specs.Words.{Text}
use Rattle.script_picture.specs.declared.part.Part.{Part}

-- the number that digits write, if it is from 1 and below 2^32
abbrev pub number_in : Text → Option ℕ
number_in digits =
    let number = digits_value 10 digits in
    if is_numeral digits && (nat_lt 0 number && nat_lt number (2 ^ 32)) then Some number else None

-- the number that a word is, or another where no word was given
abbrev pub number_given : ℕ → Option Text → Option ℕ
number_given other None = Some other
number_given other (Some word) = number_in (without_leading_plus word)

-- how many states of a script a search sees at most, where no word says it
abbrev pub most_states : ℕ
most_states = 1_000_000

-- the number that `--most` says, if it is one
abbrev pub most_named : Option Text → Option ℕ
most_named most = number_given most_states most

-- from a number to one that is no less
abbrev pub part_between : Option ℕ → Option ℕ → Option Part
part_between (Some first) (Some last) =
    if nat_le first last then Some (record { first = first; last = last }) else None
part_between (Some first) None = None
part_between None last = None

-- numbers of acts, in order
abbrev pub IsPart : Part → Type 0
IsPart part = (0 < part.first) × (part.first ≤ part.last) × (part.last < 2 ^ 32)

-- all acts
abbrev pub all_acts : Part
all_acts = record { first = 1; last = 4_294_967_295 }

-- the acts that `--from` and `--to` name, if they name any; each may be left out
abbrev pub part_named : Option Text → Option Text → Option Part
part_named from to =
    part_between (number_given all_acts.first from) (number_given all_acts.last to)
