-- The text of elements' parts. All of it is own.
use Rattle.std.specs.Prelude.{ℕ, Bool, ◌++◌, ◌==◌, ◌||◌, ◌&&◌, cond, List, [], ◌∷◌, codes, decimal, nat_le}
use Rattle.std.specs.List.{flat_map}
use Rattle.run_picture.specs.declared.element.Attribute.{Attribute}
use Rattle.run_picture.specs.declared.element.Value.{Value}
use Rattle.run_picture.specs.declared.element.Value.TheVariants.{Number, Word}

-- a line feed, or one of the bytes from space to `~`
abbrev pub is_printable : ℕ → Bool
is_printable b = b == 10 || (nat_le 32 b && nat_le b 126)

-- what isn't printable is a backslash and its number
abbrev pub plain_or_number : ℕ → List ℕ
plain_or_number b = cond (is_printable b) (b ∷ []) (codes "\\" ++ decimal b)

-- a byte that is shown: `&`, `<`, `>` and `"` by their entities
abbrev pub escaped : ℕ → List ℕ
escaped b =
    cond (b == 38) (codes "&amp;") (cond (b == 60) (codes "&lt;") (cond (b == 62) (codes "&gt;")
    (cond (b == 34) (codes "&quot;") (plain_or_number b))))

abbrev pub value_text : Value → List ℕ
value_text (Word word) = flat_map escaped word.now
value_text (Number number) = decimal number

abbrev pub attribute_text : Attribute → List ℕ
attribute_text a = codes " " ++ a.name.now ++ codes "=\"" ++ value_text a.value ++ codes "\""

-- how an element begins, and how it ends
abbrev pub opening : List ℕ → List Attribute → List ℕ
opening name attributes = codes "<" ++ name ++ flat_map attribute_text attributes ++ codes ">"

abbrev pub closing : List ℕ → List ℕ
closing name = codes "</" ++ name ++ codes ">\n"
