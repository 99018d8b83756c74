-- Trees of elements, and their text. All of it is own.
use Rattle.std.specs.Prelude.{◌≡◌, ℕ, ◌++◌, List, [], ◌∷◌}
use Rattle.std.specs.List.{flat_map}
use Rattle.run_picture.specs.declared.element.Attribute.{Attribute}
use Rattle.run_picture.specs.ElementTexts.{closing, escaped, opening}

-- nothing; or bytes that are shown, and what follows them; or an element with its attributes, what is in it, and what
-- follows it
pub data Markup : Type 0 where
  nothing : Markup
  bytes : List ℕ → Markup → Markup
  element : List ℕ → List Attribute → Markup → Markup → Markup

-- its text: each element is closed behind what is in it, and no byte that is shown stands for markup
abbrev pub rendered : Markup → List ℕ
rendered nothing = []
rendered (bytes shown rest) = flat_map escaped shown ++ rendered rest
rendered (element name attributes inner rest) =
    opening name attributes ++ (rendered inner ++ (closing name ++ rendered rest))

-- what is shown, in order
abbrev pub words : Markup → List (List ℕ)
words nothing = []
words (bytes shown rest) = shown ∷ words rest
words (element name attributes inner rest) = words inner ++ words rest

-- one after the other
abbrev pub followed : Markup → Markup → Markup
followed nothing n = n
followed (bytes shown rest) n = bytes shown (followed rest n)
followed (element name attributes inner rest) n = element name attributes inner (followed rest n)

-- an element alone: with nothing in it, or with bytes that are shown
abbrev pub shape : List ℕ → List Attribute → Markup
shape name attributes = element name attributes nothing nothing

abbrev pub label : List ℕ → List Attribute → List ℕ → Markup
label name attributes shown = element name attributes (bytes shown nothing) nothing

-- a text goes on with elements on which just these words are read, in this order
pub record Shows (old new : List ℕ) (shown : List (List ℕ)) : Type 0 where
  pub tree : Markup
  pub says : new ≡ old ++ rendered tree
  pub reads : words tree ≡ shown

-- the same of some words
pub record Draws (old new : List ℕ) : Type 0 where
  pub shown : List (List ℕ)
  pub shows : Shows old new shown
