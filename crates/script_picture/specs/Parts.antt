-- Parts of a run. All of it is own.
use Rattle.std.specs.Prelude.{ℕ, ◌+◌, ◌&&◌, Bool, min, nat_le}
use Rattle.script_picture.specs.declared.part.Part.{Part}

-- whether an act is one of a part, by its number
abbrev pub is_in : Part → ℕ → Bool
is_in part number = nat_le part.first number && nat_le number part.last

-- as many acts of a part, from its first on, as one picture shows
abbrev pub shown_part : Part → Part
shown_part part = record { first = part.first; last = min part.last (part.first + 1999) }
