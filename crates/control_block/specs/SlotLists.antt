-- Slots for handles: each has one or none.
use Rattle.std.specs.Prelude.{List, [], ◌∷◌, Option, None, Some}
use Rattle.control_block.specs.declared.handles.Held.{Held}

-- the handles in slots, in their order
abbrev pub handles_in : List (Option Held) → List Held
handles_in [] = []
handles_in (None ∷ l) = handles_in l
handles_in (Some h ∷ l) = h ∷ handles_in l
