-- Where the text and the list of turns of a command lie, and what is known of them (own).
use Rattle.std.specs.Prelude.{ℕ, ◌-◌, ◌==◌, ◌&&◌, Bool, List, length, Option, Some, None}
use Rattle.std.specs.Prelude.{if◌then◌else◌, nat_lt, slice_index, take}
use Rattle.text_lines.specs.Lines.{line_content}

-- nothing is known of what is in a file
abbrev pub known_unless : Bool → Option (List ℕ) → Option (List ℕ)
known_unless has_file bytes = if has_file then None else bytes

-- it is so of an input's bytes: of these, where it is known which they are, and else of some
abbrev pub OfBytes : Option (List ℕ) → (List ℕ → Type 0) → Type 0
OfBytes (Some bytes) So = So bytes
OfBytes None So = (bytes : List ℕ) × So bytes

-- a text without its last line end, a line feed with or without a carriage return
abbrev pub without_line_end : List ℕ → List ℕ
without_line_end text =
    if nat_lt 0 (length text) && slice_index text (length text - 1) == 10
    then line_content (take (length text - 1) text)
    else text

-- it is so of a list of turns: of this one, where the words give it, and else of that of a file
abbrev pub OfList : Option (List ℕ) → (List ℕ → Type 0) → Type 0
OfList (Some list) So = So list
OfList None So = (text : List ℕ) × So (without_line_end text)
