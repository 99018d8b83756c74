-- The line that says where outcomes differ. All of it is own.
use Rattle.std.specs.Prelude.{◌≡◌, ℕ, ◌++◌, List, [], ◌∷◌, codes, decimal}
use Rattle.std.specs.List.{flat_map}
use Rattle.script_orders.specs.declared.differences.Difference.{Difference}
use Rattle.script_orders.specs.declared.differences.Difference.TheVariants.{Statement, End, Left}

-- a thread's statement, its end, or what is left
abbrev pub difference_word : Difference → List ℕ
difference_word (Statement thread number) = decimal thread ++ codes "." ++ decimal number
difference_word (End thread) = decimal thread ++ codes ".end"
difference_word Left = codes "left"

abbrev pub spaced : Difference → List ℕ
spaced difference = 32 ∷ difference_word difference

-- words of differences, each behind a space
abbrev pub AreDifferences : List ℕ → Type 0
AreDifferences words = (differences : List Difference) × (words ≡ flat_map spaced differences)

-- `differ` and what outcomes differ in; nothing where they don't
abbrev pub differ_text : List Difference → List ℕ
differ_text [] = []
differ_text (d ∷ ds) = codes "differ" ++ flat_map spaced (d ∷ ds) ++ 10 ∷ []

abbrev pub IsDifferLine : List ℕ → Type 0
IsDifferLine line = (differences : List Difference) × (line ≡ differ_text differences)
